-- A symbol names one instrument at most, and the search through the list of instruments finds it.
use Rattle.std.proofs.Common.{◌≡◌, ◌≢◌, ℕ, ◌≤◌, ◌<◌, inl, inr, Bool, true, false, cond, List, [], ◌∷◌, ◌++◌, map, get_or, Option, Some, None, pos, refl, sym, ap, ◌∙◌, subst, arith, Contains}
use Rattle.std.specs.Prelude.{IfSome, IfNone}
use Rattle.std.specs.List.{find, list_all, flat_map, range_with_len}
use Rattle.std.specs.Str.{bytes_eq}
use Rattle.std.proofs.lemmas.Bool.{true≢false}
use Rattle.std.proofs.lemmas.List.{get_or-map}
use Rattle.std.proofs.lemmas.List.FromFn.{length-range_with_len, get_or-range_with_len}
use Rattle.std.proofs.lemmas.List.Elements.{Contains-append_left, Contains-append_right, Contains-append_cases, All-get_or}
use Rattle.std.proofs.lemmas.Slice.Eq.{bytes_eq-Decides}
use Rattle.spread_rules_ids.specs.Cut.{Lacks}
use Rattle.spread_rules_rulebook.specs.declared.instrument.Instrument.{Instrument}
use Rattle.spread_rules_rulebook.specs.declared.instrument.Instrument.TheVariants.{Outright, Spread}
use Rattle.spread_rules_rulebook.specs.declared.rulebook.Month.{Month}
use Rattle.spread_rules_rulebook.specs.Rulebook.{Rules, IsRules, IsMonth, is_name_byte, month_count, names_of, instruments_of, IsListed, symbol_of, find_symbol}
use Rattle.spread_rules_rulebook.specs.code.Rulebook.{spreads_to}
use Rattle.spread_rules_rulebook.proofs.rulebook_texts.NamesHaveNoSpace.{Lacks-name}
use Rattle.spread_rules_rulebook.proofs.lists.Membership.{not_in_nil, in_head, in_tail, in_cons_cases, in_map, from_map, in_flat_map, from_flat_map}
use Rattle.spread_rules_ids.proofs.Cuts.{cut_once, not_lacking}

-- ---- search

pub find_found : {X : Type 0} (p : X → Bool) (xs : List X) (x : X) → find p xs ≡ Some x → Contains xs x × (p x ≡ true)
find_found p [] x e = absurd cc
find_found {X} p (y ∷ ys) x e = by (p y) (λ h. find_found p ys x h) refl e
  where
    by : (b : Bool) → (find p ys ≡ Some x → Contains ys x × (p x ≡ true)) → p y ≡ b
        → cond b (Some y) (find p ys) ≡ Some x → Contains (y ∷ ys) x × (p x ≡ true)
    by true rest t h = let same : y ≡ x = cc in (
      subst (Contains (y ∷ ys)) same (in_head y ys),
      subst (λ z. p z ≡ true) same t,
    )
    by false rest t h = let r = rest h in (in_tail y ys x r.0, r.1)

pub not_missed : {X : Type 0} (p : X → Bool) (xs : List X) (x : X) → Contains xs x → p x ≡ true → find p xs ≡ None → ⊥
not_missed p [] x c t e = not_in_nil x c
not_missed {X} p (y ∷ ys) x c t e = by (p y) (λ d h. not_missed p ys x d t h) refl e
  where
    by : (b : Bool) → (Contains ys x → find p ys ≡ None → ⊥) → p y ≡ b → cond b (Some y) (find p ys) ≡ None → ⊥
    by true more u h = absurd cc
    by false more u h =
        elim (in_cons_cases y ys x c) [
          | inl same ↦ absurd (true≢false (sym t ∙ sym (ap p same) ∙ u))
          | inr rest ↦ more rest h
        ]

-- ---- the list of instruments

in_months : (n m : ℕ) → m < n → Contains (range_with_len 0 n) m
in_months n m lt =
    let len = length-range_with_len 0 n in
    let at = get_or-range_with_len 0 n m m lt in
    (m, omega (arith, lt, len), omega (arith, at))

from_months : (n m : ℕ) → Contains (range_with_len 0 n) m → m < n
from_months n m c =
    let len = length-range_with_len 0 n in
    let lt : c.0 < n = omega (arith, c.1, len) in
    let at = get_or-range_with_len 0 n c.0 m lt in
    omega (arith, at, c.2, lt)

pub in_instruments : (rules : Rules) (i : Instrument) → IsListed rules i → Contains (instruments_of rules) i
in_instruments rules (Outright m) l =
    let months = range_with_len 0 (month_count rules) in
    Contains-append_left (map Outright months) (flat_map spreads_to months) (Outright m)
    (in_map (λ (k : ℕ). Outright k) months m (in_months (month_count rules) m l))
in_instruments rules (Spread m far) l =
    let months = range_with_len 0 (month_count rules) in
    Contains-append_right (map Outright months) (flat_map spreads_to months) (Spread m far)
    (in_flat_map spreads_to months far (Spread m far) (in_months (month_count rules) far l.1)
    (in_map (λ (near : ℕ). Spread near far) (range_with_len 0 far) m (in_months far m l.0)))

pub from_instruments : (rules : Rules) (i : Instrument) → Contains (instruments_of rules) i → IsListed rules i
from_instruments rules i c =
    let months = range_with_len 0 (month_count rules) in
    elim (Contains-append_cases (map Outright months) (flat_map spreads_to months) i c) [
      | inl h ↦
          let r = from_map (λ (k : ℕ). Outright k) months i h in
          subst (IsListed rules) r.2 (from_months (month_count rules) r.0 r.1)
      | inr h ↦
          let r = from_flat_map spreads_to months i h in
          let s = from_map (λ (near : ℕ). Spread near r.0) (range_with_len 0 r.0) i r.2 in
          subst (IsListed rules) s.2 (from_months r.0 s.0 s.1, from_months (month_count rules) r.0 r.1)
    ]

-- ---- symbols

name_lacks : (rules : Rules) → IsRules rules → (m : ℕ) → m < month_count rules → Lacks 45 (get_or (names_of rules) m [])
name_lacks rules r m lt =
    let d : Month = record { name = []; reference = pos 0 } in
    let month = All-get_or (IsMonth rules.tick) rules.months m d lt r.months in
    Lacks-name 45 refl (get_or (names_of rules) m []) (ap (list_all is_name_byte)
    (get_or-map (λ (x : Month). x.name) rules.months m d [] lt) ∙ month.name.letters)

pub symbol_once : (rules : Rules) → IsRules rules → (i j : Instrument) → IsListed rules i → IsListed rules j
    → symbol_of rules i ≡ symbol_of rules j → i ≡ j
symbol_once rules r (Outright m) (Outright n) a b e = ap Outright (r.names m n a b e)
symbol_once rules r (Outright m) (Spread n far) a b e =
    absurd (not_lacking 45 (get_or (names_of rules) n []) (get_or (names_of rules) far [])
    (subst (Lacks 45) e (name_lacks rules r m a)))
symbol_once rules r (Spread n far) (Outright m) b a e =
    absurd (not_lacking 45 (get_or (names_of rules) n []) (get_or (names_of rules) far [])
    (subst (Lacks 45) (sym e) (name_lacks rules r m a)))
symbol_once rules r (Spread m f) (Spread n g) a b e =
    let af = a.1 in let bg = b.1 in let am = a.0 in let bn = b.0 in
    let once = cut_once 45 (get_or (names_of rules) m []) (get_or (names_of rules) n []) (get_or (names_of rules) f [])
    (get_or (names_of rules) g []) e (name_lacks rules r m (omega arith)) (name_lacks rules r n (omega arith)) in
    ap (λ k. Spread k f) (r.names m n (omega arith) (omega arith) once.0) ∙ ap (Spread n) (r.names f g af bg once.1)

pub find_symbol_some : (rules : Rules) → IsRules rules → (symbol : List ℕ) (i : Instrument) → IsListed rules i
    → symbol_of rules i ≡ symbol → find_symbol rules symbol ≡ Some i
find_symbol_some rules r symbol i l e = by (find_symbol rules symbol) refl
  where
    test : Instrument → Bool
    test j = bytes_eq (symbol_of rules j) symbol

    by : (o : Option Instrument) → find test (instruments_of rules) ≡ o → o ≡ Some i
    by None f = absurd (not_missed test (instruments_of rules) i (in_instruments rules i l)
        ((bytes_eq-Decides (symbol_of rules i) symbol).1 e) f)
    by (Some j) f =
        let h = find_found test (instruments_of rules) j f in
        ap Some (symbol_once rules r j i (from_instruments rules j h.0) l
        ((bytes_eq-Decides (symbol_of rules j) symbol).0 h.1 ∙ sym e))

pub find_symbol_none : (rules : Rules) (symbol : List ℕ)
    → ((i : Instrument) → IsListed rules i → symbol_of rules i ≢ symbol) → find_symbol rules symbol ≡ None
find_symbol_none rules symbol none = by (find_symbol rules symbol) refl
  where
    test : Instrument → Bool
    test j = bytes_eq (symbol_of rules j) symbol

    by : (o : Option Instrument) → find test (instruments_of rules) ≡ o → o ≡ None
    by None f = refl
    by (Some j) f =
        let h = find_found test (instruments_of rules) j f in
        absurd (none j (from_instruments rules j h.0) ((bytes_eq-Decides (symbol_of rules j) symbol).0 h.1))

-- ---- what a symbol that was cut at its dash says

-- a spread with that symbol has the two parts as its months' names
pub parts_are : (rules : Rules) → IsRules rules → (symbol near far : List ℕ) (m f : ℕ) → symbol ≡ near ++ 45 ∷ far
    → Lacks 45 near → IsListed rules (Spread m f) → symbol_of rules (Spread m f) ≡ symbol
    → (m < month_count rules) × (f < month_count rules) × (get_or (names_of rules) m [] ≡ near)
    × (get_or (names_of rules) f [] ≡ far)
parts_are rules r symbol near far m f is lacks l e =
    let below = l.0 in let last = l.1 in
    let once = cut_once 45 (get_or (names_of rules) m []) near (get_or (names_of rules) f []) far (e ∙ is)
    (name_lacks rules r m (omega arith)) lacks in
    (omega arith, last, once.0, once.1)

-- months in the wrong order are no spread
pub not_reversed : (rules : Rules) → IsRules rules → (symbol near far : List ℕ) (i j m f : ℕ) → symbol ≡ near
    ++ 45 ∷ far → Lacks 45 near → (i < month_count rules) × (get_or (names_of rules) i [] ≡ near)
    → (j < month_count rules) × (get_or (names_of rules) j [] ≡ far) → j ≤ i
    → IsListed rules (Spread m f) → symbol_of rules (Spread m f) ≡ symbol → ⊥
not_reversed rules r symbol near far i j m f is lacks a b le l e =
    let parts = parts_are rules r symbol near far m f is lacks l e in
    let same_near : m ≡ i = r.names m i parts.0 a.0 (parts.2 ∙ sym a.1) in
    let same_far : f ≡ j = r.names f j parts.1 b.0 (parts.3 ∙ sym b.1) in
    let below = l.0 in
    omega arith

pub has_dash : (rules : Rules) (symbol : List ℕ) (m f : ℕ) → Lacks 45 symbol → symbol_of rules (Spread m f) ≢ symbol
has_dash rules symbol m f lacks e = not_lacking 45 (get_or (names_of rules) m []) (get_or (names_of rules) f [])
    (subst (Lacks 45) (sym e) lacks)

-- neither a month nor a spread
pub neither : (rules : Rules) (symbol : List ℕ) → ((m : ℕ) → m < month_count rules
    → get_or (names_of rules) m [] ≢ symbol) → ((m f : ℕ) → IsListed rules (Spread m f)
    → symbol_of rules (Spread m f) ≢ symbol)
    → (i : Instrument) → IsListed rules i → symbol_of rules i ≢ symbol
neither rules symbol a b (Outright m) l = a m l
neither rules symbol a b (Spread m f) l = b m f l

-- what one look-up answers is what the search through the list does
pub found_is : (rules : Rules) → IsRules rules → (symbol : List ℕ) (o : Option Instrument)
    → IfSome o (λ i. IsListed rules i × (symbol_of rules i ≡ symbol))
    → IfNone o ((i : Instrument) → IsListed rules i → symbol_of rules i ≢ symbol) → o ≡ find_symbol rules symbol
found_is rules r symbol None s n = sym (find_symbol_none rules symbol n)
found_is rules r symbol (Some i) s n = sym (find_symbol_some rules r symbol i s.0 s.1)
