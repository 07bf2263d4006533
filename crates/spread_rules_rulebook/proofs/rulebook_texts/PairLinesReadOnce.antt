-- What a line that is read as one for a pair says.
use Rattle.std.proofs.Common.{◌≡◌, ℕ, ◌<◌, Bool, true, false, pos, List, [], ◌∷◌, ◌++◌, length, get_or, codes, Option, Some, None, IfNone, refl, sym, ap, ◌∙◌, subst, arith}
use Rattle.std.specs.Prelude.{All}
use Rattle.std.proofs.lemmas.List.{append_cancel_left, get_or-map, length-map}
use Rattle.spread_rules_ids.specs.Cut.{Lacks}
use Rattle.spread_rules_ids.proofs.Cuts.{cut_once, not_lacking}
use Rattle.spread_rules_rulebook.specs.Rulebook.{IsName}
use Rattle.spread_rules_rulebook.specs.RulebookText.{names_in, switch_text, IsPairLine}
use Rattle.spread_rules_rulebook.specs.code.DraftFields.{HasDistinctNames}
use Rattle.spread_rules_rulebook.specs.declared.rulebook.Month.{Month}
use Rattle.spread_rules_rulebook.proofs.rulebook_texts.NamesHaveNoSpace.{Lacks-name}

pub if_none : {A P : Type 0} → (r : Option A) → r ≡ None → P → IfNone r P
if_none None e p = p
if_none (Some x) e p = absurd cc

-- no name has a space in it
abbrev pub HaveNoSpace : List (List ℕ) → Type 0
HaveNoSpace names = (k : ℕ) → k < length names → Lacks 32 (get_or names k [])

pub no_spaces : (ms : List Month) → All (λ m. IsName m.name) ms → HaveNoSpace (names_in ms)
no_spaces ms h k lt =
    let long = length-map ms (λ (m : Month). m.name) in
    let below : k < length ms = omega (arith, long, lt) in
    let d : Month = record { name = []; reference = pos 0 } in
    subst (Lacks 32) (sym (get_or-map (λ (m : Month). m.name) ms k d [] below))
    (Lacks-name 32 refl (get_or ms k d).name (h k d below).letters)

-- behind the front stand both names and the switch, with a space between
pub fields_are : (names : List (List ℕ)) (i j : ℕ) (on : Bool) (line fields : List ℕ) → line ≡ codes "pair " ++ fields
    → IsPairLine names i j on line
    → fields ≡ get_or names i [] ++ 32 ∷ (get_or names j [] ++ 32 ∷ switch_text on)
fields_are names i j on line fields is p = append_cancel_left (codes "pair ") fields
    (get_or names i [] ++ 32 ∷ (get_or names j [] ++ 32 ∷ switch_text on)) (sym is ∙ p.text)

pub near_is : (names : List (List ℕ)) (i j : ℕ) (on : Bool) (line fields near others : List ℕ) → HaveNoSpace names
    → line ≡ codes "pair " ++ fields → fields ≡ near ++ 32 ∷ others → Lacks 32 near → IsPairLine names i j on line
    → (near ≡ get_or names i []) × (others ≡ get_or names j [] ++ 32 ∷ switch_text on)
near_is names i j on line fields near others spaces is cut lacks p =
    let order = p.order in
    let named = p.named in
    cut_once 32 near (get_or names i []) others (get_or names j [] ++ 32 ∷ switch_text on)
    (sym cut ∙ fields_are names i j on line fields is p) lacks (spaces i (omega arith))

pub far_is : (names : List (List ℕ)) (i j : ℕ) (on : Bool) (line fields near others far switch : List ℕ)
    → HaveNoSpace names → line ≡ codes "pair " ++ fields → fields ≡ near ++ 32 ∷ others → Lacks 32 near → others ≡ far
    ++ 32 ∷ switch → Lacks 32 far → IsPairLine names i j on line
    → (far ≡ get_or names j []) × (switch ≡ switch_text on)
far_is names i j on line fields near others far switch spaces is cut lacks cut_far lacks_far p =
    let parts = near_is names i j on line fields near others spaces is cut lacks p in
    cut_once 32 far (get_or names j []) switch (switch_text on) (sym cut_far ∙ parts.1) lacks_far (spaces j p.named)

-- ---- lines that are none

pub no_field : (names : List (List ℕ)) (i j : ℕ) (on : Bool) (line fields : List ℕ) → line ≡ codes "pair " ++ fields
    → Lacks 32 fields → IsPairLine names i j on line → ⊥
no_field names i j on line fields is lacks p = not_lacking 32 (get_or names i [])
    (get_or names j [] ++ 32 ∷ switch_text on) (subst (Lacks 32) (fields_are names i j on line fields is p) lacks)

pub no_switch : (names : List (List ℕ)) (i j : ℕ) (on : Bool) (line fields near others : List ℕ) → HaveNoSpace names
    → line ≡ codes "pair " ++ fields → fields ≡ near ++ 32 ∷ others → Lacks 32 near → Lacks 32 others
    → IsPairLine names i j on line → ⊥
no_switch names i j on line fields near others spaces is cut lacks none p =
    let parts = near_is names i j on line fields near others spaces is cut lacks p in
    not_lacking 32 (get_or names j []) (switch_text on) (subst (Lacks 32) parts.1 none)

pub number_is : (names : List (List ℕ)) (i k : ℕ) (name : List ℕ) → HasDistinctNames names → i < length names
    → k < length names → get_or names k [] ≡ name → name ≡ get_or names i [] → k ≡ i
number_is names i k name distinct li lk a b = distinct k i lk li (a ∙ b)

-- ---- one line, one pair

pub switch_once : (on other : Bool) → switch_text on ≡ switch_text other → on ≡ other
switch_once true true e = refl
switch_once false false e = refl
switch_once true false e = let h : ◌≡◌ {A = ℕ} 110 102 = ap (λ l. get_or l 1 0) e in absurd (omega arith)
switch_once false true e = let h : ◌≡◌ {A = ℕ} 102 110 = ap (λ l. get_or l 1 0) e in absurd (omega arith)

pub pair_once : (names : List (List ℕ)) (i j k l : ℕ) (on other : Bool) (line : List ℕ) → HaveNoSpace names
    → HasDistinctNames names → IsPairLine names i j on line → IsPairLine names k l other line → (i ≡ k) × (j ≡ l)
    × (on ≡ other)
pair_once names i j k l on other line spaces distinct p q =
    let order = p.order in
    let named = p.named in
    let order2 = q.order in
    let named2 = q.named in
    let near = get_or names i [] in
    let far = get_or names j [] in
    let others = far ++ 32 ∷ switch_text on in
    let first = near_is names k l other line (near ++ 32 ∷ others) near others spaces p.text refl
    (spaces i (omega arith)) q in
    let second = far_is names k l other line (near ++ 32 ∷ others) near others far (switch_text on) spaces p.text refl
    (spaces i (omega arith)) refl (spaces j named) q in (
      distinct i k (omega arith) (omega arith) first.0,
      distinct j l named named2 second.0,
      switch_once on other second.1,
    )
