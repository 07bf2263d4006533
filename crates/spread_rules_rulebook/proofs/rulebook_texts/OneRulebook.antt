-- A rulebook's text has one answer.
use Rattle.std.proofs.Common.{◌≡◌, ℕ, ℤ, ◌+◌, ◌<◌, Bool, true, false, eqb, length, get_or, List, [], ◌∷◌, ◌++◌, Option, Some, None, Result, Ok, Err, refl, sym, ap, ◌∙◌, subst, arith}
use Rattle.std.specs.Fmt.{signed_decimal}
use Rattle.spread_rules_ids.specs.Cut.{Lacks}
use Rattle.spread_rules_rulebook.specs.Rulebook.{Rules, IsMonth, IsTick}
use Rattle.spread_rules_rulebook.specs.code.Rulebook.{switch_of}
use Rattle.spread_rules_rulebook.specs.code.DraftFields.{HasDistinctNames}
use Rattle.spread_rules_rulebook.specs.declared.rule_fault.RuleFault.TheVariants.{BadLine, TooManyMonths, NamedTwice}
use Rattle.spread_rules_rulebook.proofs.rulebook_texts.DraftsOneLineMore.{names_push}
use Rattle.spread_rules_rulebook.proofs.rulebook_texts.PairLinesReadOnce.{HaveNoSpace, pair_once}
use Rattle.std.proofs.lemmas.List.{length_push, get_or_push, get_or_append_left, map_push}
use Rattle.std.proofs.lemmas.Bool.{eqb-true}
use Rattle.std.proofs.lemmas.Bool.Decides.{nat_tests}
use Rattle.spread_rules_rulebook.specs.RulebookText.{SoFar, IsSkipped, IsNamed, tick_line, month_line, with_tick, with_month, LineGives, EndGives, Reads, ReadsRulebook, no_lines, names_in, with_switch, IsPairLine, skipped, tick, no_tick, no_line, too_many, twice, month, pair_twice, pair, none, some, last, last_fault, more, fault}
use Rattle.spread_rules_rulebook.specs.declared.rulebook.Month.{Month}
use Rattle.spread_rules_rulebook.specs.declared.rule_fault.RuleFault.{RuleFault}
use Rattle.spread_rules_ids.proofs.Cuts.{cut_once, not_lacking}
use Rattle.spread_rules_rulebook.proofs.rulebook_texts.FieldsReadOnce.{signed_is, price_fits}
use Rattle.spread_rules_rulebook.proofs.rulebook_texts.MonthLinesReadOnce.{tick_fits, tick_is, cut_is}
use Rattle.spread_rules_rulebook.proofs.rulebook_texts.NamesHaveNoSpace.{Lacks-name}

-- ---- lines are told apart

tick_not_skipped : (line : List ℕ) (t : ℤ) → line ≡ tick_line t → IsSkipped line → ⊥
tick_not_skipped line t is s = let h : ◌≡◌ {A = ℕ} 116 35 = subst IsSkipped is s in absurd (omega arith)

month_not_skipped : (line : List ℕ) (m : Month) → line ≡ month_line m → IsSkipped line → ⊥
month_not_skipped line m is s = let h : ◌≡◌ {A = ℕ} 109 35 = subst IsSkipped is s in absurd (omega arith)

pair_not_skipped : (names : List (List ℕ)) (i j : ℕ) (on : Bool) (line : List ℕ) → IsPairLine names i j on line
    → IsSkipped line → ⊥
pair_not_skipped names i j on line p s = let h : ◌≡◌ {A = ℕ} 112 35 = subst IsSkipped p.text s in absurd (omega arith)

month_no_pair : (names : List (List ℕ)) (i j : ℕ) (on : Bool) (line : List ℕ) (m : Month) → line ≡ month_line m
    → IsPairLine names i j on line → ⊥
month_no_pair names i j on line m is p = let h : ◌≡◌ {A = ℕ} 109 112 = ap (λ l. get_or l 0 0) (sym is ∙ p.text) in
    absurd (omega arith)

switch_none_some : (o : Option Bool) (said : Bool) → o ≡ None → o ≡ Some said → ⊥
switch_none_some o said a b = absurd cc

none_some : (o : Option ℤ) (t : ℤ) → o ≡ None → o ≡ Some t → ⊥
none_some o t a b = absurd cc

some_once : (o : Option ℤ) (t u : ℤ) → o ≡ Some t → o ≡ Some u → t ≡ u
some_once o t u a b = cc

ok_once : (a b : SoFar) → ◌≡◌ {A = Result SoFar RuleFault} (Ok a) (Ok b) → a ≡ b
ok_once a b e = cc

err_once : (a b : RuleFault) → ◌≡◌ {A = Result SoFar RuleFault} (Err a) (Err b) → a ≡ b
err_once a b e = cc

ok_err : (a : SoFar) (b : RuleFault) → ◌≡◌ {A = Result SoFar RuleFault} (Ok a) (Err b) → ⊥
ok_err a b e = absurd cc

tick_once : (line : List ℕ) (t u : ℤ) → IsTick t → IsTick u → line ≡ tick_line t → line ≡ tick_line u → t ≡ u
tick_once line t u f g is same = tick_is t u line (signed_decimal t) (tick_fits t f) is refl g same

made : List ℕ → ℤ → Month
made name reference = record { name = name; reference = reference }

month_once : (line : List ℕ) (t : ℤ) (m n : Month) → IsMonth t m → IsMonth t n → line ≡ month_line m
    → line ≡ month_line n → m ≡ n
unfolding made
month_once line t m n f g is same =
    let parts = cut_is t n line (m.name ++ 32 ∷ signed_decimal m.reference) m.name (signed_decimal m.reference) is refl
    (Lacks-name 32 refl m.name f.name.letters) g same in
    let references = signed_is m.reference n.reference (signed_decimal m.reference)
    (price_fits m.reference f.reference.price.low f.reference.price.high)
    (price_fits n.reference g.reference.price.low g.reference.price.high) refl parts.1 in
    ap (λ x. made x m.reference) parts.0 ∙ ap (made n.name) references

-- ---- what lines before drew

-- names differ, and have no space
record IsDrawn (b : SoFar) : Type 0 where
  distinct : HasDistinctNames (names_in b.months)
  spaces : HaveNoSpace (names_in b.months)

none_drawn : IsDrawn no_lines
none_drawn = record { distinct = λ i j li lj e. absurd (omega arith); spaces = λ k lt. absurd (omega arith) }

spaces_push : (names : List (List ℕ)) (name : List ℕ) → HaveNoSpace names → Lacks 32 name
    → HaveNoSpace (names ++ name ∷ [])
spaces_push names name spaces lacks k lt = by (eqb k (length names)) refl
  where
    long : length (names ++ name ∷ []) ≡ length names + 1
    long = length_push names name

    by : (r : Bool) → eqb k (length names) ≡ r → Lacks 32 (get_or (names ++ name ∷ []) k [])
    by true e = subst (Lacks 32) (sym (get_or_push names name [] k (sym (eqb-true k (length names) e)))) lacks
    by false e =
        let below : k < length names = grind (arith, nat_tests, long) in
        subst (Lacks 32) (sym (get_or_append_left names (name ∷ []) [] k below)) (spaces k below)

drawn_more : (b : SoFar) (t : ℤ) (m : Month) → IsDrawn b → IsMonth t m → (IsNamed b m.name → ⊥)
    → IsDrawn (with_month m b)
drawn_more b t m d f new =
    let names : names_in (b.months ++ m ∷ []) ≡ names_in b.months
    ++ m.name ∷ [] = map_push (λ (x : Month). x.name) b.months m in
    record {
      distinct = subst HasDistinctNames (sym names) (names_push (names_in b.months) m.name d.distinct new);
      spaces = subst HaveNoSpace (sym names) (spaces_push (names_in b.months) m.name d.spaces
          (Lacks-name 32 refl m.name f.name.letters));
    }

drawn_next : {n : ℕ} {b next : SoFar} {line : List ℕ} {answer : Result SoFar RuleFault} → IsDrawn b
    → LineGives n b line answer → answer ≡ Ok next → IsDrawn next
drawn_next {n} {b} {next} d (skipped s) e = subst IsDrawn (ok_once b next e) d
drawn_next {n} {b} {next} d (tick t o i f) e = subst IsDrawn (ok_once (with_tick t b) next e)
    (record { distinct = d.distinct; spaces = d.spaces })
drawn_next {n} {b} {next} d (no_tick o k h) e = absurd (ok_err next (BadLine n) (sym e))
drawn_next {n} {b} {next} d (no_line t o k h v) e = absurd (ok_err next (BadLine n) (sym e))
drawn_next {n} {b} {next} d (too_many t m o i f l) e = absurd (ok_err next TooManyMonths (sym e))
drawn_next {n} {b} {next} d (twice t m o i f l h) e = absurd (ok_err next NamedTwice (sym e))
drawn_next {n} {b} {next} d (month t m o i f l h) e =
    subst IsDrawn (ok_once (with_month m b) next e) (drawn_more b t m d f h)
drawn_next {n} {b} {next} d (pair_twice t x y z w o p q) e = absurd (ok_err next NamedTwice (sym e))
drawn_next {n} {b} {next} d (pair t x y z o p q) e =
    subst IsDrawn (ok_once (with_switch x y z b) next e) (record { distinct = d.distinct; spaces = d.spaces })

-- ---- one answer

same_pair : (b : SoFar) → IsDrawn b → (line : List ℕ) (i j k l : ℕ) (on other : Bool)
    → IsPairLine (names_in b.months) i j on line → IsPairLine (names_in b.months) k l other line → (i ≡ k) × (j ≡ l)
    × (on ≡ other)
same_pair b d line i j k l on other p q = pair_once (names_in b.months) i j k l on other line d.spaces d.distinct p q

switched_once : (b : SoFar) → IsDrawn b → (line : List ℕ) (i j k l : ℕ) (on other said : Bool)
    → IsPairLine (names_in b.months) i j on line → IsPairLine (names_in b.months) k l other line
    → switch_of b.switches i j ≡ Some said → switch_of b.switches k l ≡ None → ⊥
switched_once b d line i j k l on other said p q is unsaid =
    let same = same_pair b d line i j k l on other p q in
    absurd (switch_none_some (switch_of b.switches k l) said unsaid
    (subst (λ x. switch_of b.switches k x ≡ Some said) same.1
    (subst (λ x. switch_of b.switches x j ≡ Some said) same.0 is)))

with_pair_once : (b : SoFar) → IsDrawn b → (line : List ℕ) (i j k l : ℕ) (on other : Bool)
    → IsPairLine (names_in b.months) i j on line → IsPairLine (names_in b.months) k l other line
    → ◌≡◌ {A = Result SoFar RuleFault} (Ok (with_switch i j on b)) (Ok (with_switch k l other b))
with_pair_once b d line i j k l on other p q =
    let same = same_pair b d line i j k l on other p q in
    ap (λ x. Ok (with_switch x j on b)) same.0 ∙ (ap (λ x. Ok (with_switch k x on b)) same.1
    ∙ ap (λ x. Ok (with_switch k l x b)) same.2)

line_once : {n : ℕ} {b : SoFar} {line : List ℕ} {x y : Result SoFar RuleFault} → IsDrawn b → LineGives n b line x
    → LineGives n b line y → x ≡ y
line_once {n} {b} {line} d (skipped s) (skipped s2) = refl
line_once {n} {b} {line} d (skipped s) (tick t2 o2 i2 f2) = absurd (tick_not_skipped line t2 i2 s)
line_once {n} {b} {line} d (skipped s) (no_tick o2 k2 h2) = absurd (k2 s)
line_once {n} {b} {line} d (skipped s) (no_line t2 o2 k2 h2 v2) = absurd (k2 s)
line_once {n} {b} {line} d (skipped s) (too_many t2 m2 o2 i2 f2 l2) = absurd (month_not_skipped line m2 i2 s)
line_once {n} {b} {line} _ (skipped s) (twice t2 m2 o2 i2 f2 l2 d2) = absurd (month_not_skipped line m2 i2 s)
line_once {n} {b} {line} _ (skipped s) (month t2 m2 o2 i2 f2 l2 d2) = absurd (month_not_skipped line m2 i2 s)
line_once {n} {b} {line} d (skipped s) (pair_twice t2 x2 y2 z2 w2 o2 p2 q2) =
    absurd (pair_not_skipped (names_in b.months) x2 y2 z2 line p2 s)
line_once {n} {b} {line} d (skipped s) (pair t2 x2 y2 z2 o2 p2 q2) =
    absurd (pair_not_skipped (names_in b.months) x2 y2 z2 line p2 s)
line_once {n} {b} {line} d (tick t o i f) (skipped s2) = absurd (tick_not_skipped line t i s2)
line_once {n} {b} {line} d (tick t o i f) (tick t2 o2 i2 f2) =
    ap (λ (z : ℤ). Ok (with_tick z b)) (tick_once line t t2 f f2 i i2)
line_once {n} {b} {line} d (tick t o i f) (no_tick o2 k2 h2) = absurd (h2 t f i)
line_once {n} {b} {line} d (tick t o i f) (no_line t2 o2 k2 h2 v2) = absurd (none_some b.tick t2 o o2)
line_once {n} {b} {line} d (tick t o i f) (too_many t2 m2 o2 i2 f2 l2) = absurd (none_some b.tick t2 o o2)
line_once {n} {b} {line} _ (tick t o i f) (twice t2 m2 o2 i2 f2 l2 d2) = absurd (none_some b.tick t2 o o2)
line_once {n} {b} {line} _ (tick t o i f) (month t2 m2 o2 i2 f2 l2 d2) = absurd (none_some b.tick t2 o o2)
line_once {n} {b} {line} d (tick t o i f) (pair_twice t2 x2 y2 z2 w2 o2 p2 q2) = absurd (none_some b.tick t2 o o2)
line_once {n} {b} {line} d (tick t o i f) (pair t2 x2 y2 z2 o2 p2 q2) = absurd (none_some b.tick t2 o o2)
line_once {n} {b} {line} d (no_tick o k h) (skipped s2) = absurd (k s2)
line_once {n} {b} {line} d (no_tick o k h) (tick t2 o2 i2 f2) = absurd (h t2 f2 i2)
line_once {n} {b} {line} d (no_tick o k h) (no_tick o2 k2 h2) = refl
line_once {n} {b} {line} d (no_tick o k h) (no_line t2 o2 k2 h2 v2) = absurd (none_some b.tick t2 o o2)
line_once {n} {b} {line} d (no_tick o k h) (too_many t2 m2 o2 i2 f2 l2) = absurd (none_some b.tick t2 o o2)
line_once {n} {b} {line} _ (no_tick o k h) (twice t2 m2 o2 i2 f2 l2 d2) = absurd (none_some b.tick t2 o o2)
line_once {n} {b} {line} _ (no_tick o k h) (month t2 m2 o2 i2 f2 l2 d2) = absurd (none_some b.tick t2 o o2)
line_once {n} {b} {line} d (no_tick o k h) (pair_twice t2 x2 y2 z2 w2 o2 p2 q2) = absurd (none_some b.tick t2 o o2)
line_once {n} {b} {line} d (no_tick o k h) (pair t2 x2 y2 z2 o2 p2 q2) = absurd (none_some b.tick t2 o o2)
line_once {n} {b} {line} d (no_line t o k h v) (skipped s2) = absurd (k s2)
line_once {n} {b} {line} d (no_line t o k h v) (tick t2 o2 i2 f2) = absurd (none_some b.tick t o2 o)
line_once {n} {b} {line} d (no_line t o k h v) (no_tick o2 k2 h2) = absurd (none_some b.tick t o2 o)
line_once {n} {b} {line} d (no_line t o k h v) (no_line t2 o2 k2 h2 v2) = refl
line_once {n} {b} {line} d (no_line t o k h v) (too_many t2 m2 o2 i2 f2 l2) =
    absurd (h m2 (subst (λ u. IsMonth u m2) (some_once b.tick t2 t o2 o) f2) i2)
line_once {n} {b} {line} _ (no_line t o k h v) (twice t2 m2 o2 i2 f2 l2 d2) =
    absurd (h m2 (subst (λ u. IsMonth u m2) (some_once b.tick t2 t o2 o) f2) i2)
line_once {n} {b} {line} _ (no_line t o k h v) (month t2 m2 o2 i2 f2 l2 d2) =
    absurd (h m2 (subst (λ u. IsMonth u m2) (some_once b.tick t2 t o2 o) f2) i2)
line_once {n} {b} {line} d (no_line t o k h v) (pair_twice t2 x2 y2 z2 w2 o2 p2 q2) = absurd (v x2 y2 z2 p2)
line_once {n} {b} {line} d (no_line t o k h v) (pair t2 x2 y2 z2 o2 p2 q2) = absurd (v x2 y2 z2 p2)
line_once {n} {b} {line} d (too_many t m o i f l) (skipped s2) = absurd (month_not_skipped line m i s2)
line_once {n} {b} {line} d (too_many t m o i f l) (tick t2 o2 i2 f2) = absurd (none_some b.tick t o2 o)
line_once {n} {b} {line} d (too_many t m o i f l) (no_tick o2 k2 h2) = absurd (none_some b.tick t o2 o)
line_once {n} {b} {line} d (too_many t m o i f l) (no_line t2 o2 k2 h2 v2) =
    absurd (h2 m (subst (λ u. IsMonth u m) (some_once b.tick t t2 o o2) f) i)
line_once {n} {b} {line} d (too_many t m o i f l) (too_many t2 m2 o2 i2 f2 l2) = refl
line_once {n} {b} {line} _ (too_many t m o i f l) (twice t2 m2 o2 i2 f2 l2 d2) = absurd (omega arith)
line_once {n} {b} {line} _ (too_many t m o i f l) (month t2 m2 o2 i2 f2 l2 d2) = absurd (omega arith)
line_once {n} {b} {line} d (too_many t m o i f l) (pair_twice t2 x2 y2 z2 w2 o2 p2 q2) =
    absurd (month_no_pair (names_in b.months) x2 y2 z2 line m i p2)
line_once {n} {b} {line} d (too_many t m o i f l) (pair t2 x2 y2 z2 o2 p2 q2) =
    absurd (month_no_pair (names_in b.months) x2 y2 z2 line m i p2)
line_once {n} {b} {line} _ (twice t m o i f l d) (skipped s2) = absurd (month_not_skipped line m i s2)
line_once {n} {b} {line} _ (twice t m o i f l d) (tick t2 o2 i2 f2) = absurd (none_some b.tick t o2 o)
line_once {n} {b} {line} _ (twice t m o i f l d) (no_tick o2 k2 h2) = absurd (none_some b.tick t o2 o)
line_once {n} {b} {line} _ (twice t m o i f l d) (no_line t2 o2 k2 h2 v2) =
    absurd (h2 m (subst (λ u. IsMonth u m) (some_once b.tick t t2 o o2) f) i)
line_once {n} {b} {line} _ (twice t m o i f l d) (too_many t2 m2 o2 i2 f2 l2) = absurd (omega arith)
line_once {n} {b} {line} _ (twice t m o i f l d) (twice t2 m2 o2 i2 f2 l2 d2) = refl
line_once {n} {b} {line} _ (twice t m o i f l d) (month t2 m2 o2 i2 f2 l2 d2) =
    absurd (d2 (subst (λ (z : Month). IsNamed b z.name)
    (month_once line t m m2 f (subst (λ u. IsMonth u m2) (some_once b.tick t2 t o2 o) f2) i i2) d))
line_once {n} {b} {line} _ (twice t m o i f l d) (pair_twice t2 x2 y2 z2 w2 o2 p2 q2) =
    absurd (month_no_pair (names_in b.months) x2 y2 z2 line m i p2)
line_once {n} {b} {line} _ (twice t m o i f l d) (pair t2 x2 y2 z2 o2 p2 q2) =
    absurd (month_no_pair (names_in b.months) x2 y2 z2 line m i p2)
line_once {n} {b} {line} _ (month t m o i f l d) (skipped s2) = absurd (month_not_skipped line m i s2)
line_once {n} {b} {line} _ (month t m o i f l d) (tick t2 o2 i2 f2) = absurd (none_some b.tick t o2 o)
line_once {n} {b} {line} _ (month t m o i f l d) (no_tick o2 k2 h2) = absurd (none_some b.tick t o2 o)
line_once {n} {b} {line} _ (month t m o i f l d) (no_line t2 o2 k2 h2 v2) =
    absurd (h2 m (subst (λ u. IsMonth u m) (some_once b.tick t t2 o o2) f) i)
line_once {n} {b} {line} _ (month t m o i f l d) (too_many t2 m2 o2 i2 f2 l2) = absurd (omega arith)
line_once {n} {b} {line} _ (month t m o i f l d) (twice t2 m2 o2 i2 f2 l2 d2) =
    absurd (d (subst (λ (z : Month). IsNamed b z.name)
    (sym (month_once line t m m2 f (subst (λ u. IsMonth u m2) (some_once b.tick t2 t o2 o) f2) i i2)) d2))
line_once {n} {b} {line} _ (month t m o i f l d) (month t2 m2 o2 i2 f2 l2 d2) =
    ap (λ (z : Month). Ok (with_month z b)) (month_once line t m m2 f
    (subst (λ u. IsMonth u m2) (some_once b.tick t2 t o2 o) f2) i i2)
line_once {n} {b} {line} _ (month t m o i f l d) (pair_twice t2 x2 y2 z2 w2 o2 p2 q2) =
    absurd (month_no_pair (names_in b.months) x2 y2 z2 line m i p2)
line_once {n} {b} {line} _ (month t m o i f l d) (pair t2 x2 y2 z2 o2 p2 q2) =
    absurd (month_no_pair (names_in b.months) x2 y2 z2 line m i p2)
line_once {n} {b} {line} d (pair_twice t x y z w o p q) (skipped s2) =
    absurd (pair_not_skipped (names_in b.months) x y z line p s2)
line_once {n} {b} {line} d (pair_twice t x y z w o p q) (tick t2 o2 i2 f2) = absurd (none_some b.tick t o2 o)
line_once {n} {b} {line} d (pair_twice t x y z w o p q) (no_tick o2 k2 h2) = absurd (none_some b.tick t o2 o)
line_once {n} {b} {line} d (pair_twice t x y z w o p q) (no_line t2 o2 k2 h2 v2) = absurd (v2 x y z p)
line_once {n} {b} {line} d (pair_twice t x y z w o p q) (too_many t2 m2 o2 i2 f2 l2) =
    absurd (month_no_pair (names_in b.months) x y z line m2 i2 p)
line_once {n} {b} {line} _ (pair_twice t x y z w o p q) (twice t2 m2 o2 i2 f2 l2 d2) =
    absurd (month_no_pair (names_in b.months) x y z line m2 i2 p)
line_once {n} {b} {line} _ (pair_twice t x y z w o p q) (month t2 m2 o2 i2 f2 l2 d2) =
    absurd (month_no_pair (names_in b.months) x y z line m2 i2 p)
line_once {n} {b} {line} d (pair_twice t x y z w o p q) (pair_twice t2 x2 y2 z2 w2 o2 p2 q2) = refl
line_once {n} {b} {line} d (pair_twice t x y z w o p q) (pair t2 x2 y2 z2 o2 p2 q2) =
    absurd (switched_once b d line x y x2 y2 z z2 w p p2 q q2)
line_once {n} {b} {line} d (pair t x y z o p q) (skipped s2) =
    absurd (pair_not_skipped (names_in b.months) x y z line p s2)
line_once {n} {b} {line} d (pair t x y z o p q) (tick t2 o2 i2 f2) = absurd (none_some b.tick t o2 o)
line_once {n} {b} {line} d (pair t x y z o p q) (no_tick o2 k2 h2) = absurd (none_some b.tick t o2 o)
line_once {n} {b} {line} d (pair t x y z o p q) (no_line t2 o2 k2 h2 v2) = absurd (v2 x y z p)
line_once {n} {b} {line} d (pair t x y z o p q) (too_many t2 m2 o2 i2 f2 l2) =
    absurd (month_no_pair (names_in b.months) x y z line m2 i2 p)
line_once {n} {b} {line} _ (pair t x y z o p q) (twice t2 m2 o2 i2 f2 l2 d2) =
    absurd (month_no_pair (names_in b.months) x y z line m2 i2 p)
line_once {n} {b} {line} _ (pair t x y z o p q) (month t2 m2 o2 i2 f2 l2 d2) =
    absurd (month_no_pair (names_in b.months) x y z line m2 i2 p)
line_once {n} {b} {line} d (pair t x y z o p q) (pair_twice t2 x2 y2 z2 w2 o2 p2 q2) =
    absurd (switched_once b d line x2 y2 x y z2 z w2 p2 p q2 q)
line_once {n} {b} {line} d (pair t x y z o p q) (pair t2 x2 y2 z2 o2 p2 q2) =
    with_pair_once b d line x y x2 y2 z z2 p p2

end_once : {b : SoFar} {x y : Result Rules RuleFault} → EndGives b x → EndGives b y → x ≡ y
end_once (none e) (none e2) = refl
end_once (none e) (some t o k) = absurd (k e)
end_once (some t o k) (none e) = absurd (k e)
end_once {b} (some t o k) (some t2 o2 k2) = ap (λ (z : ℤ). let r : Rules =
    record { tick = z; months = b.months; switches = b.switches } in Ok r) (some_once b.tick t t2 o o2)

not_last : (line after rest : List ℕ) → Lacks 10 rest → rest ≡ line ++ 10 ∷ after → ⊥
not_last line after rest l i = not_lacking 10 line after (subst (Lacks 10) i l)

reads_once : {n : ℕ} {b : SoFar} {rest : List ℕ} {x y : Result Rules RuleFault} → IsDrawn b → Reads n b rest x
    → Reads n b rest y → x ≡ y
reads_once {n} {b} {rest} {x} {y} d (last v l g e) (last v2 l2 g2 e2) =
    end_once e (subst (λ w. EndGives w y) (ok_once v2 v (line_once d g2 g)) e2)
reads_once d (last v l g e) (last_fault f l2 g2) = absurd (ok_err v f (line_once d g g2))
reads_once {n} {b} {rest} d (last v l g e) (more c a v2 i k g2 r) = absurd (not_last c a rest l i)
reads_once {n} {b} {rest} d (last v l g e) (fault c a f i k g2) = absurd (not_last c a rest l i)
reads_once d (last_fault f l g) (last v l2 g2 e) = absurd (ok_err v f (line_once d g2 g))
reads_once d (last_fault f l g) (last_fault f2 l2 g2) = ap Err (err_once f f2 (line_once d g g2))
reads_once {n} {b} {rest} d (last_fault f l g) (more c a v2 i k g2 r) = absurd (not_last c a rest l i)
reads_once {n} {b} {rest} d (last_fault f l g) (fault c a f2 i k g2) = absurd (not_last c a rest l i)
reads_once {n} {b} {rest} d (more c a v i k g r) (last v2 l2 g2 e2) = absurd (not_last c a rest l2 i)
reads_once {n} {b} {rest} d (more c a v i k g r) (last_fault f l2 g2) = absurd (not_last c a rest l2 i)
reads_once {n} {b} {rest} {x} {y} d (more c a v i k g r) (more c2 a2 v2 i2 k2 g2 r2) =
    let cuts = cut_once 10 c2 c a2 a (sym i2 ∙ i) k2 k in
    let same = ok_once v2 v (line_once d (subst (λ z. LineGives n b z (Ok v2)) cuts.0 g2) g) in
    reads_once (drawn_next d g refl) r (subst (λ w. Reads (n + 1) w a y) same
    (subst (λ z. Reads (n + 1) v2 z y) cuts.1 r2))
reads_once {n} {b} {rest} d (more c a v i k g r) (fault c2 a2 f i2 k2 g2) =
    let cuts = cut_once 10 c2 c a2 a (sym i2 ∙ i) k2 k in
    absurd (ok_err v f (line_once d g (subst (λ z. LineGives n b z (Err f)) cuts.0 g2)))
reads_once {n} {b} {rest} d (fault c a f i k g) (last v2 l2 g2 e2) = absurd (not_last c a rest l2 i)
reads_once {n} {b} {rest} d (fault c a f i k g) (last_fault f2 l2 g2) = absurd (not_last c a rest l2 i)
reads_once {n} {b} {rest} d (fault c a f i k g) (more c2 a2 v2 i2 k2 g2 r2) =
    let cuts = cut_once 10 c2 c a2 a (sym i2 ∙ i) k2 k in
    absurd (ok_err v2 f (line_once d (subst (λ z. LineGives n b z (Ok v2)) cuts.0 g2) g))
reads_once {n} {b} {rest} d (fault c a f i k g) (fault c2 a2 f2 i2 k2 g2) =
    let cuts = cut_once 10 c2 c a2 a (sym i2 ∙ i) k2 k in
    ap Err (err_once f f2 (line_once d g (subst (λ z. LineGives n b z (Err f2)) cuts.0 g2)))

pub rulebook_once : {text : List ℕ} {x y : Result Rules RuleFault} → ReadsRulebook text x → ReadsRulebook text y → x ≡ y
rulebook_once r r2 = reads_once none_drawn r r2
