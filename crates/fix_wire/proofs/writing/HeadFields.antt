-- The fields of a head, as they are written one after another.
use Rattle.std.proofs.Common.{◌≡◌, ℕ, Bool, true, false, cond, List, [], ◌∷◌, ◌++◌, refl, sym, ap, ◌∙◌, arith}
use Rattle.std.specs.Prelude.{decimal, is_some, Some, None}
use Rattle.std.specs.List.{flat_map}
use Rattle.std.proofs.lemmas.List.{append_assoc}
use Rattle.std.proofs.lemmas.Fmt.{decimal_step, decimal_digit}
use Rattle.fix_wire.specs.declared.writer.Head.{Head}
use Rattle.fix_wire.specs.declared.writer.SpelledHead.{SpelledHead}
use Rattle.fix_wire.specs.declared.writer.Value.TheVariants.{Text}
use Rattle.fix_wire.specs.declared.writer.Field as given
use Rattle.fix_wire.specs.Layout.{field, field_text, head_fields, orig_time, SpellsHead}
use Rattle.fix_wire.specs.code.Layout.{only_if}
use Rattle.fix_wire.specs.Spelling.{kind_text, orig_text, spelled, spelled_head}
use Rattle.fix_wire_values.proofs.Appended.{step}

-- ---- the tags in digits

d35 : decimal 35 ≡ 51 ∷ 53 ∷ []
d35 = decimal_step 35 (omega arith) (omega arith) ∙ ap (λ t. t ++ 53 ∷ []) (decimal_digit 3 (omega arith))

d34 : decimal 34 ≡ 51 ∷ 52 ∷ []
d34 = decimal_step 34 (omega arith) (omega arith) ∙ ap (λ t. t ++ 52 ∷ []) (decimal_digit 3 (omega arith))

d43 : decimal 43 ≡ 52 ∷ 51 ∷ []
d43 = decimal_step 43 (omega arith) (omega arith) ∙ ap (λ t. t ++ 51 ∷ []) (decimal_digit 4 (omega arith))

d49 : decimal 49 ≡ 52 ∷ 57 ∷ []
d49 = decimal_step 49 (omega arith) (omega arith) ∙ ap (λ t. t ++ 57 ∷ []) (decimal_digit 4 (omega arith))

d52 : decimal 52 ≡ 53 ∷ 50 ∷ []
d52 = decimal_step 52 (omega arith) (omega arith) ∙ ap (λ t. t ++ 50 ∷ []) (decimal_digit 5 (omega arith))

d56 : decimal 56 ≡ 53 ∷ 54 ∷ []
d56 = decimal_step 56 (omega arith) (omega arith) ∙ ap (λ t. t ++ 54 ∷ []) (decimal_digit 5 (omega arith))

d12 : decimal 12 ≡ 49 ∷ 50 ∷ []
d12 = decimal_step 12 (omega arith) (omega arith) ∙ ap (λ t. t ++ 50 ∷ []) (decimal_digit 1 (omega arith))

d122 : decimal 122 ≡ 49 ∷ 50 ∷ 50 ∷ []
d122 = decimal_step 122 (omega arith) (omega arith) ∙ ap (λ t. t ++ 50 ∷ []) d12

abbrev text_field : ℕ → List ℕ → given.Field
text_field tag text = field tag (Text text)

-- one field, and what follows it
text_of : (tag : ℕ) (digits value rest : List ℕ) → decimal tag ≡ digits → field_text (text_field tag value)
    ++ rest ≡ digits ++ 61 ∷ (value ++ 1 ∷ rest)
text_of tag digits value rest e =
    ap (λ ds. ((ds ++ (61 ∷ value)) ++ (1 ∷ [])) ++ rest) e
    ∙ append_assoc (digits ++ 61 ∷ value) (1 ∷ []) rest
    ∙ append_assoc digits (61 ∷ value) (1 ∷ rest)

abbrev fields_by : Bool → ℕ → List ℕ → List ℕ → List ℕ → List ℕ → List given.Field
fields_by d k n sender stamp target =
    (text_field 35 (k ∷ []) ∷ text_field 34 n ∷ [])
    ++ (only_if d (text_field 43 (89 ∷ []))
    ++ ((text_field 49 sender ∷ text_field 52 stamp ∷ text_field 56 target ∷ [])
    ++ only_if d (text_field 122 stamp)))

-- the fields one after another
abbrev line_by : Bool → ℕ → List ℕ → List ℕ → List ℕ → List ℕ → List ℕ
line_by d k n sender stamp target =
    51 ∷ 53 ∷ 61 ∷ k ∷ 1 ∷ 51 ∷ 52 ∷ 61 ∷ (n ++ (cond d (1 ∷ 52 ∷ 51 ∷ 61 ∷ 89 ∷ []) []
    ++ 1 ∷ 52 ∷ 57 ∷ 61 ∷ (sender ++ 1 ∷ 53 ∷ 50 ∷ 61 ∷
    (stamp ++ 1 ∷ 53 ∷ 54 ∷ 61 ∷ (target ++ (cond d (1 ∷ 49 ∷ 50 ∷ 50 ∷ 61 ∷ stamp) [] ++ 1 ∷ []))))))

line_tail : (d : Bool) (stamp : List ℕ) → 1 ∷ flat_map field_text (only_if d (text_field 122 stamp)) ≡ cond d
    (1 ∷ 49 ∷ 50 ∷ 50 ∷ 61 ∷ stamp) [] ++ 1 ∷ []
line_tail true stamp = ap (λ t. 1 ∷ t) (text_of 122 (49 ∷ 50 ∷ 50 ∷ []) stamp [] d122)
line_tail false stamp = refl

line_ids : (d : Bool) (sender stamp target : List ℕ) →
    flat_map field_text ((text_field 49 sender ∷ text_field 52 stamp ∷ text_field 56 target ∷ [])
    ++ only_if d (text_field 122 stamp))
    ≡ 52 ∷ 57 ∷ 61 ∷ (sender ++ 1 ∷ 53 ∷ 50 ∷ 61 ∷ (stamp
    ++ 1 ∷ 53 ∷ 54 ∷ 61 ∷ (target ++ (cond d (1 ∷ 49 ∷ 50 ∷ 50 ∷ 61 ∷ stamp) [] ++ 1 ∷ []))))
line_ids d sender stamp target =
    text_of 49 (52 ∷ 57 ∷ []) sender _ d49
    ∙ ap (λ t. 52 ∷ 57 ∷ 61 ∷ (sender ++ 1 ∷ t)) (text_of 52 (53 ∷ 50 ∷ []) stamp _ d52
    ∙ ap (λ t. 53 ∷ 50 ∷ 61 ∷ (stamp ++ 1 ∷ t)) (text_of 56 (53 ∷ 54 ∷ []) target _ d56
    ∙ ap (λ t. 53 ∷ 54 ∷ 61 ∷ (target ++ t)) (line_tail d stamp)))

line_is : (d : Bool) (k : ℕ) (n sender stamp target : List ℕ)
    → flat_map field_text (fields_by d k n sender stamp target) ≡ line_by d k n sender stamp target
line_is true k n sender stamp target =
    text_of 35 (51 ∷ 53 ∷ []) (k ∷ []) _ d35
    ∙ ap (λ t. 51 ∷ 53 ∷ 61 ∷ k ∷ 1 ∷ t) (text_of 34 (51 ∷ 52 ∷ []) n _ d34
    ∙ ap (λ t. 51 ∷ 52 ∷ 61 ∷ (n ++ 1 ∷ t)) (text_of 43 (52 ∷ 51 ∷ []) (89 ∷ []) _ d43
    ∙ ap (λ t. 52 ∷ 51 ∷ 61 ∷ 89 ∷ 1 ∷ t) (line_ids true sender stamp target)))
line_is false k n sender stamp target =
    text_of 35 (51 ∷ 53 ∷ []) (k ∷ []) _ d35
    ∙ ap (λ t. 51 ∷ 53 ∷ 61 ∷ k ∷ 1 ∷ t) (text_of 34 (51 ∷ 52 ∷ []) n _ d34
    ∙ ap (λ t. 51 ∷ 52 ∷ 61 ∷ (n ++ 1 ∷ t)) (line_ids false sender stamp target))

-- ---- as they are spelled

pub parties_are : (sender stamp target : List ℕ) → flat_map field_text
    (text_field 49 sender ∷ text_field 52 stamp ∷ text_field 56 target ∷ []) ≡ 52 ∷ 57 ∷ 61 ∷
    (sender ++ 1 ∷ 53 ∷ 50 ∷ 61 ∷ (stamp ++ 1 ∷ 53 ∷ 54 ∷ 61 ∷ (target ++ 1 ∷ [])))
parties_are sender stamp target =
    text_of 49 (52 ∷ 57 ∷ []) sender _ d49
    ∙ ap (λ t. 52 ∷ 57 ∷ 61 ∷ (sender ++ 1 ∷ t)) (text_of 52 (53 ∷ 50 ∷ []) stamp _ d52
    ∙ ap (λ t. 53 ∷ 50 ∷ 61 ∷ (stamp ++ 1 ∷ t)) (text_of 56 (53 ∷ 54 ∷ []) target [] d56))

pub head_spelled : (l : SpelledHead) (h : Head) → SpellsHead l h → spelled_head l ≡ flat_map field_text (head_fields h)
head_spelled l h same =
    let ids = same.parties.text ∙ parties_are h.sender h.stamp h.target in
    ap (λ k. kind_text k l.number (is_some (orig_time l)) ++ (spelled l.parties.now ++ orig_text (orig_time l)))
    same.kind
    ∙ ap (λ n. kind_text h.kind n (is_some (orig_time l)) ++ (spelled l.parties.now ++ orig_text (orig_time l)))
    same.number
    ∙ ap (λ o. kind_text h.kind h.number (is_some o) ++ (spelled l.parties.now ++ orig_text o)) same.duplicate
    ∙ ap (λ t. kind_text h.kind h.number (is_some (cond h.duplicate (Some h.stamp) None))
    ++ (t ++ orig_text (cond h.duplicate (Some h.stamp) None))) ids
    ∙ nested h.duplicate h.kind (decimal h.number) h.sender h.stamp h.target
    ∙ sym (line_is h.duplicate h.kind (decimal h.number) h.sender h.stamp h.target)
  where
    nested : (d : Bool) (k : ℕ) (n sender stamp target : List ℕ) →
        ((51 ∷ 53 ∷ 61 ∷ k ∷ 1 ∷ 51 ∷ 52 ∷ 61 ∷ []) ++ (n ++ cond (is_some (cond d (Some stamp) None))
        (1 ∷ 52 ∷ 51 ∷ 61 ∷ 89 ∷ 1 ∷ []) (1 ∷ [])))
        ++ ((52 ∷ 57 ∷ 61 ∷ (sender ++ 1 ∷ 53 ∷ 50 ∷ 61 ∷ (stamp ++ 1 ∷ 53 ∷ 54 ∷ 61 ∷ (target ++ 1 ∷ []))))
        ++ orig_text (cond d (Some stamp) None))
        ≡ line_by d k n sender stamp target
    nested true k n sender stamp target = simp append_assoc refl
    nested false k n sender stamp target = simp append_assoc refl

-- the parties as the code writes them
pub parties_written : (sender stamp target o1 o2 o3 o4 o5 o6 o7 : List ℕ) →
    o1 ≡ 52 ∷ 57 ∷ 61 ∷ [] → o2 ≡ o1 ++ sender → o3 ≡ o2 ++ (1 ∷ 53 ∷ 50 ∷ 61 ∷ []) → o4 ≡ o3 ++ stamp → o5 ≡ o4
    ++ (1 ∷ 53 ∷ 54 ∷ 61 ∷ []) → o6 ≡ o5 ++ target → o7 ≡ o6 ++ (1 ∷ []) →
    o7 ≡ flat_map field_text (text_field 49 sender ∷ text_field 52 stamp ∷ text_field 56 target ∷ [])
parties_written sender stamp target o1 o2 o3 o4 o5 o6 o7 e1 e2 e3 e4 e5 e6 e7 =
    step [] o6 o7 _ _ e7 (step [] o5 o6 _ _ e6 (step [] o4 o5 _ _ e5
    (step [] o3 o4 _ _ e4 (step [] o2 o3 _ _ e3 (step [] o1 o2 _ _ e2 e1)))))
    ∙ nested sender stamp target
    ∙ sym (parties_are sender stamp target)
  where
    nested : (sender stamp target : List ℕ) →
        ((((((52 ∷ 57 ∷ 61 ∷ []) ++ sender) ++ (1 ∷ 53 ∷ 50 ∷ 61 ∷ [])) ++ stamp) ++ (1 ∷ 53 ∷ 54 ∷ 61 ∷ [])) ++ target)
        ++ (1 ∷ [])
        ≡ 52 ∷ 57 ∷ 61 ∷ (sender ++ 1 ∷ 53 ∷ 50 ∷ 61 ∷ (stamp ++ 1 ∷ 53 ∷ 54 ∷ 61 ∷ (target ++ 1 ∷ [])))
    nested sender stamp target = simp append_assoc refl
