-- A draft that takes one more line.
use Rattle.std.proofs.Common.{◌≡◌, ◌≢◌, ℕ, ◌+◌, ◌<◌, Bool, true, false, eqb, ℤ, List, [], ◌∷◌, ◌++◌, length, get_or, take, set, map, Some, None, Ok, Err, refl, sym, ap, ◌∙◌, subst, arith, Contains}
use Rattle.std.specs.Prelude.{All}
use Rattle.std.proofs.lemmas.List.{take_more_set, length_push, get_or_push, get_or_append_left, get_or_default, map_push, length-set}
use Rattle.std.proofs.lemmas.List.{length-take-le}
use Rattle.std.proofs.lemmas.List.Elements.{All-push}
use Rattle.std.proofs.lemmas.Bool.{eqb-true}
use Rattle.std.proofs.lemmas.Bool.Decides.{nat_tests}
use Rattle.spread_rules_rulebook.specs.declared.rulebook.Month.{Month}
use Rattle.spread_rules_rulebook.specs.declared.name_guesses.NameGuesses.{NameGuesses}
use Rattle.spread_rules_rulebook.specs.declared.rulebook_text.Draft.{Draft}
use Rattle.std.proofs.lemmas.List.{length-map}
use Rattle.spread_rules_rulebook.specs.Rulebook.{Rules, IsRules, IsMonth, IsTick}
use Rattle.spread_rules_rulebook.specs.RulebookText.{names_in, IsNamed, SoFar, LineGives, tick, tick_line, month, month_line, EndGives, none, some}
use Rattle.spread_rules_rulebook.specs.code.DraftFields.{IsDraft, HasDistinctNames, so_far}
use Rattle.spread_rules_rulebook.specs.code.RulebookFields.{IsRulebook}
use Rattle.spread_rules_rulebook.specs.declared.rule_fault.RuleFault.TheVariants.{NoMonth}
use Rattle.std.proofs.Common.{to_z, of_z}
use Rattle.std.specs.Int.{w64}
use Rattle.std.proofs.lemmas.Int.{to_z-of_z}
use Rattle.spread_rules_rulebook.proofs.rulebook_texts.MonthLinesReadOnce.{tick_fits}

-- ---- names

pub is_named : (ms : List Month) (k : ℕ) (name : List ℕ) → k < length ms → get_or (names_in ms) k [] ≡ name
    → Contains (names_in ms) name
is_named ms k name lt e =
    let long = length-map ms (λ (m : Month). m.name) in
    let below : k < length (names_in ms) = omega (arith, long, lt) in
    (k, below, get_or_default (names_in ms) k name [] below ∙ e)

pub not_named : (ms : List Month) (name : List ℕ) → ((k : ℕ) → k < length ms → get_or (names_in ms) k [] ≢ name)
    → Contains (names_in ms) name → ⊥
not_named ms name other h =
    let long = length-map ms (λ (m : Month). m.name) in
    let lt = h.1 in
    other h.0 (omega (arith, long, lt)) (sym (get_or_default (names_in ms) h.0 name [] h.1) ∙ h.2)

pub names_push : (names : List (List ℕ)) (x : List ℕ) → HasDistinctNames names → (Contains names x → ⊥)
    → HasDistinctNames (names ++ x ∷ [])
names_push names x distinct new i j below_i below_j e =
    let long = length_push names x in
    by (eqb i (length names)) (eqb j (length names)) refl refl
  where
    at_last : (k : ℕ) → k ≡ length names → get_or (names ++ x ∷ []) k [] ≡ x
    at_last k h = get_or_push names x [] k (sym h)

    before : (k : ℕ) → k < length names → get_or (names ++ x ∷ []) k [] ≡ get_or names k []
    before k lt = get_or_append_left names (x ∷ []) [] k lt

    there : (k : ℕ) → k < length names → get_or names k [] ≡ x → Contains names x
    there k lt h = (k, lt, get_or_default names k x [] lt ∙ h)

    by : (a b : Bool) → eqb i (length names) ≡ a → eqb j (length names) ≡ b → i ≡ j
    by true true f g = eqb-true i (length names) f ∙ sym (eqb-true j (length names) g)
    by true false f g =
        let long = length_push names x in
        let lt : j < length names = grind (arith, nat_tests) in
        absurd (new (there j lt (sym (before j lt) ∙ sym e ∙ at_last i (eqb-true i (length names) f))))
    by false true f g =
        let long = length_push names x in
        let lt : i < length names = grind (arith, nat_tests) in
        absurd (new (there i lt (sym (before i lt) ∙ e ∙ at_last j (eqb-true j (length names) g))))
    by false false f g =
        let long = length_push names x in
        let li : i < length names = grind (arith, nat_tests) in
        let lj : j < length names = grind (arith, nat_tests) in
        distinct i j li lj (sym (before i li) ∙ e ∙ before j lj)

-- ---- a month more

pub count_is : (d : Draft) → IsDraft d → length (take d.list.count d.list.slots) ≡ d.list.count
count_is d k = let slots = k.slots in let within = k.within in length-take-le d.list.count d.list.slots (omega arith)

pub gives_month : (n : ℕ) (d : Draft) (line : List ℕ) (t : ℤ) (m : Month) → IsDraft d → d.tick ≡ Some t
    → line ≡ month_line m → IsMonth t m → d.list.count < 24 → (IsNamed (so_far d) m.name → ⊥)
    → LineGives n (so_far d) line (Ok (record {
      tick = d.tick;
      months =
          take (d.list.count + 1) (set d.list.slots d.list.count m);
      switches = d.switches.rows;
    }))
gives_month n d line t m k is e f few new =
    let slots = k.slots in
    let count = count_is d k in
    let lt : d.list.count < length d.list.slots = omega arith in
    let grown = take_more_set d.list.slots d.list.count m lt in
    let room : length (so_far d).months < 24 = omega arith in
    subst (λ (ms : List Month). let b : SoFar = record { tick = d.tick; months = ms; switches = d.switches.rows } in
    LineGives n (so_far d) line (Ok b)) (sym grown) (month t m is e f room new)

pub kept_month : (d : Draft) (t : ℤ) (m : Month) → IsDraft d → d.tick ≡ Some t → IsMonth t m → d.list.count < 24
    → (IsNamed (so_far d) m.name → ⊥) → IsDraft (record {
      tick = d.tick;
      list = record { count = d.list.count + 1; slots = set d.list.slots d.list.count m };
      switches =
          d.switches;
    })
kept_month d t m k is f few new =
    let slots = k.slots in
    let lt : d.list.count < length d.list.slots = omega arith in
    let grown = take_more_set d.list.slots d.list.count m lt in
    let names : map (λ (x : Month). x.name) (take (d.list.count + 1) (set d.list.slots d.list.count m)) ≡ map
    (λ (x : Month). x.name) (take d.list.count d.list.slots) ++ m.name ∷ [] = ap (map (λ (x : Month). x.name)) grown
    ∙ map_push (λ (x : Month). x.name) (take d.list.count d.list.slots) m in
    record {
      slots = length-set d.list.slots d.list.count m ∙ slots;
      switches = k.switches;
      within = omega arith;
      tick = λ u e.
          let same : t ≡ u = cc in
          let held_before = k.tick u e in (
            held_before.0,
            subst (All (IsMonth u)) (sym grown)
                (All-push (IsMonth u) (take d.list.count d.list.slots) m held_before.1
                (subst (λ v. IsMonth v m) same f)),
          );
      empty = λ e. absurd cc;
      names = subst HasDistinctNames (sym names) (names_push
          (map (λ (x : Month). x.name) (take d.list.count d.list.slots)) m.name k.names new);
    }

pub kept_tick : (d : Draft) (t : ℤ) → IsDraft d → d.tick ≡ None → IsTick t
    → IsDraft (record { tick = Some t; list = d.list; switches = d.switches })
kept_tick d t k unset f =
    let zero = k.empty unset in
    record {
      slots = k.slots;
      switches = k.switches;
      within = k.within;
      tick = λ u e. let same : t ≡ u = cc in (
        subst IsTick same f,
        subst (λ n. All (IsMonth u) (take n d.list.slots)) (sym zero) (λ i x lt. absurd (omega arith)),
      );
      empty = λ e. absurd cc;
      names = k.names;
    }

-- ---- the tick, as the code's signed numbers have it

pub same_tick : (t : ℤ) → IsTick t → to_z w64 (of_z w64 t) ≡ t
same_tick t f = to_z-of_z w64 t (tick_fits t f)

pub fits_month : (t : ℤ) (m : Month) → IsTick t → IsMonth (to_z w64 (of_z w64 t)) m → IsMonth t m
fits_month t m f h = subst (λ u. IsMonth u m) (same_tick t f) h

pub no_month_fits : (t : ℤ) (line : List ℕ) → IsTick t
    → ((m : Month) → IsMonth (to_z w64 (of_z w64 t)) m → line ≢ month_line m) → (m : Month) → IsMonth t m
    → line ≢ month_line m
no_month_fits t line f other m h = other m (subst (λ u. IsMonth u m) (sym (same_tick t f)) h)

pub gives_tick : (n : ℕ) (d : Draft) (line : List ℕ) (t : ℤ) → d.tick ≡ None → line ≡ tick_line t → IsTick t
    → LineGives n (so_far d) line (Ok (record {
      tick = Some (to_z w64 (of_z w64 t));
      months =
          take d.list.count d.list.slots;
      switches = d.switches.rows;
    }))
gives_tick n d line t unset is f = subst (λ (u : ℤ). let b : SoFar =
    record { tick = Some u; months = take d.list.count d.list.slots; switches = d.switches.rows } in
    LineGives n (so_far d) line (Ok b)) (sym (same_tick t f)) (tick t unset is f)

-- ---- the end

not_empty : (d : Draft) → IsDraft d → d.list.count ≢ 0 → take d.list.count d.list.slots ≢ []
not_empty d k filled e = let count = count_is d k in let zero = ap length e in absurd (filled (omega arith))

pub ends_without : (d : Draft) → IsDraft d → d.list.count ≡ 0 → EndGives (so_far d) (Err NoMonth)
ends_without d k zero = none (ap (λ n. take n d.list.slots) zero)

pub ends_with : (d : Draft) (t : ℤ) → IsDraft d → d.tick ≡ Some t → d.list.count ≢ 0
    → EndGives (so_far d) (Ok (record {
      tick = to_z w64 (of_z w64 t);
      months = take d.list.count d.list.slots;
      switches = d.switches.rows;
    }))
ends_with d t k is some_month =
    let e = same_tick t (k.tick t is).0 in
    subst (λ (u : ℤ). let r : Rules = record {
      tick = u;
      months = take d.list.count d.list.slots;
      switches =
          d.switches.rows;
    } in EndGives (so_far d) (Ok r)) (sym e) (some t is (not_empty d k some_month))

finished : (d : Draft) (t : ℤ) → IsDraft d → d.tick ≡ Some t → d.list.count ≢ 0
    → IsRules (record { tick = t; months = take d.list.count d.list.slots; switches = d.switches.rows })
finished d t k is some_month =
    let count = count_is d k in
    let within = k.within in
    let months = take d.list.count d.list.slots in
    let names = length-map months (λ (m : Month). m.name) in
    record {
      tick = (k.tick t is).0;
      some = omega arith;
      most = omega arith;
      months = (k.tick t is).1;
      names = λ i j a b e. k.names i j (omega arith) (omega arith) e;
    }

pub kept_rulebook : (d : Draft) (t : ℤ) (guesses : NameGuesses) → IsDraft d → d.tick ≡ Some t → d.list.count ≢ 0
    → IsRulebook (record { tick = to_z w64 (of_z w64 t); list = d.list; switches = d.switches; guesses = guesses })
kept_rulebook d t guesses k is some_month =
    let e = same_tick t (k.tick t is).0 in
    record {
      slots = k.slots;
      within = k.within;
      rules = subst (λ (u : ℤ). let r : Rules = record {
        tick = u;
        months = take d.list.count d.list.slots;
        switches =
            d.switches.rows;
      } in IsRules r) (sym e) (finished d t k is some_month);
    }
