-- the table of best prices through the changes of a book
use Rattle.std.proofs.Common.{◌≡◌, ℕ, ◌<◌, ◌==◌, nat_lt, Bool, true, false, cond, List, [], ◌∷◌, ◌++◌, length, replicate, Contains, Option, Some, None, option_map, refl, sym, ap, ◌∙◌, subst, arith, inl, inr}
use Rattle.std.proofs.lemmas.Bool.{and_parts}
use Rattle.std.specs.List.{find}
use Rattle.std.proofs.lemmas.Bool.Decides.{nat_tests}
use Rattle.spread_rules.specs.declared.order.Side.{Side}
use Rattle.spread_rules.specs.declared.order.Side.TheVariants.{Buy, Sell}
use Rattle.spread_rules_rulebook.specs.declared.instrument.Instrument.{Instrument}
use Rattle.spread_rules_rulebook.specs.declared.instrument.Instrument.TheVariants.{Outright, Spread}
use Rattle.spread_rules.specs.declared.order.Order.{Order}
use Rattle.spread_rules.specs.Clearing.{removed}
use Rattle.spread_rules_rulebook.proofs.lists.Membership.{not_in_nil, in_head, in_tail, in_cons_cases}
use Rattle.spread_books_plain.specs.Queues.{IsFront, IsFrontLevel, is_ahead}
use Rattle.spread_books_rows.specs.Places.{Ascends}
use Rattle.spread_books_queues.specs.FrontTable.{has_slot, slot_number, slot_of, slot_in, put_in, known_price, with_known_price, best_price_of, level_at}
use Rattle.spread_books_heap.specs.code.FrontPrices.{IsBestPrice, HoldsPrices, becomes_front, may_be_front}
use Rattle.spread_books_queues.specs.declared.front_table.BestPrice.{BestPrice}
use Rattle.spread_books_plain.proofs.fronts.FoldGivesFront.{same_queue}
use Rattle.spread_books_rows.proofs.places.Ascending.{is_so, is_found}
use Rattle.spread_books_rows.proofs.places.ChangedAt.{changed_at, changed, key_kept}
use Rattle.spread_books_plain.proofs.fronts.Changes.{front_of_others, front_of_own, front_removed, any_front_changed, KeepsQueue, of_another}
use Rattle.spread_books_plain.proofs.fronts.Slots.{get_set_same, get_set_other, get_replicate}

-- ---- slots

slot_is : (a b : Instrument) (s t : Side) → has_slot a ≡ true → has_slot b ≡ true → slot_number a s ≡ slot_number b t
    → (a ≡ b) × (s ≡ t)
slot_is (Outright m) (Outright n) Buy Buy x y e = let k : m ≡ n = omega arith in (ap Outright k, refl)
slot_is (Outright m) (Outright n) Sell Sell x y e = let k : m ≡ n = omega arith in (ap Outright k, refl)
slot_is (Outright m) (Outright n) Buy Sell x y e = absurd (omega arith)
slot_is (Outright m) (Outright n) Sell Buy x y e = absurd (omega arith)
slot_is (Outright m) (Spread k l) Buy Buy x y e = let u : m < 24 = grind (arith, nat_tests) in absurd (omega arith)
slot_is (Outright m) (Spread k l) Sell Sell x y e = let u : m < 24 = grind (arith, nat_tests) in absurd (omega arith)
slot_is (Outright m) (Spread k l) Buy Sell x y e = absurd (omega arith)
slot_is (Outright m) (Spread k l) Sell Buy x y e = absurd (omega arith)
slot_is (Spread i j) (Outright n) Buy Buy x y e = let u : n < 24 = grind (arith, nat_tests) in absurd (omega arith)
slot_is (Spread i j) (Outright n) Sell Sell x y e = let u : n < 24 = grind (arith, nat_tests) in absurd (omega arith)
slot_is (Spread i j) (Outright n) Buy Sell x y e = absurd (omega arith)
slot_is (Spread i j) (Outright n) Sell Buy x y e = absurd (omega arith)
slot_is (Spread i j) (Spread k l) Buy Sell x y e = absurd (omega arith)
slot_is (Spread i j) (Spread k l) Sell Buy x y e = absurd (omega arith)
slot_is (Spread i j) (Spread k l) Buy Buy x y e =
    let a = and_parts (nat_lt i 24) (nat_lt j 24) x in
    let b = and_parts (nat_lt k 24) (nat_lt l 24) y in
    let u : j < 24 = let h = a.1 in grind (arith, nat_tests) in
    let v : l < 24 = let h = b.1 in grind (arith, nat_tests) in
    let p : i ≡ k = omega arith in let q : j ≡ l = omega arith in (cc, refl)
slot_is (Spread i j) (Spread k l) Sell Sell x y e =
    let a = and_parts (nat_lt i 24) (nat_lt j 24) x in
    let b = and_parts (nat_lt k 24) (nat_lt l 24) y in
    let u : j < 24 = let h = a.1 in grind (arith, nat_tests) in
    let v : l < 24 = let h = b.1 in grind (arith, nat_tests) in
    let p : i ≡ k = omega arith in let q : j ≡ l = omega arith in (cc, refl)

given : (b : Bool) (m n : ℕ) → cond b (Some m) None ≡ Some n → (b ≡ true) × (m ≡ n)
given true m n h = (refl, cc)
given false m n h = cc

slot_once : (i j : Instrument) (s t : Side) (n : ℕ) → slot_of i s ≡ Some n → slot_of j t ≡ Some n → (i ≡ j) × (s ≡ t)
slot_once i j s t n e f =
    let a = given (has_slot i) (slot_number i s) n e in
    let b = given (has_slot j) (slot_number j t) n f in
    slot_is i j s t a.0 b.0 (a.1 ∙ sym b.1)

put_same_at : (slots : List (Option BestPrice)) (a : Option ℕ) (f r : Option BestPrice)
    → slot_in (put_in slots a f) a ≡ Some r → r ≡ f
put_same_at slots None f r h = cc
put_same_at slots (Some n) f r h = get_set_same slots n f r h

put_other_at : (slots : List (Option BestPrice)) (a b : Option ℕ) (f : Option BestPrice)
    → ((n : ℕ) → a ≡ Some n → b ≡ Some n → ⊥) → slot_in (put_in slots a f) b ≡ slot_in slots b
put_other_at slots None b f h = refl
put_other_at slots (Some n) None f h = refl
put_other_at slots (Some n) (Some m) f h = get_set_other slots n m f (λ e. h n refl (ap (λ (k : ℕ). Some k) (sym e)))

-- ---- a table whose fronts are those of the others, and of one queue

module _ (ys : List Order) (slots : List (Option BestPrice)) (i : Instrument) (s : Side)
    (others : (j : Instrument) (t : Side) (f : Option BestPrice) → ((i ≡ j) × (s ≡ t) → ⊥)
    → known_price slots j t ≡ Some f → IsBestPrice ys j t f) where
  pub prices_put : (f : Option BestPrice) → IsBestPrice ys i s f → HoldsPrices ys (with_known_price slots i s f)
  prices_put f front j t r h =
      elim (same_queue i j s t) [
        | inl e ↦
            let at = λ (u : Instrument) (v : Side). IsBestPrice ys u v r in
            let own : known_price (with_known_price slots i s f) i s ≡ Some r =
            subst (λ (v : Side). known_price (with_known_price slots i s f) i v ≡ Some r) (sym e.1)
            (subst (λ (u : Instrument). known_price (with_known_price slots i s f) u t ≡ Some r) (sym e.0) h) in
            let k : r ≡ f = put_same_at slots (slot_of i s) f r own in
            subst (λ (u : Instrument). IsBestPrice ys u t r) e.0
            (subst (λ (v : Side). IsBestPrice ys i v r) e.1 (subst (λ (g : Option BestPrice). IsBestPrice ys i s g)
            (sym k) front))
        | inr n ↦ others j t r n (sym (put_other_at slots (slot_of i s) (slot_of j t) f
            (λ m a b. n (slot_once i j s t m a b))) ∙ h)
      ]

  pub prices_kept : ((f : Option BestPrice) → known_price slots i s ≡ Some f → IsBestPrice ys i s f)
      → HoldsPrices ys slots
  prices_kept own j t r h =
      elim (same_queue i j s t) [
        | inl e ↦
            let here : known_price slots i s ≡ Some r = subst (λ (v : Side). known_price slots i v ≡ Some r) (sym e.1)
            (subst (λ (u : Instrument). known_price slots u t ≡ Some r) (sym e.0) h) in
            subst (λ (u : Instrument). IsBestPrice ys u t r) e.0
            (subst (λ (v : Side). IsBestPrice ys i v r) e.1 (own r here))
        | inr n ↦ others j t r n h
      ]

-- ---- no order

pub is_nil : (xs : List Order) → length xs ≡ 0 → xs ≡ []
is_nil [] e = refl
is_nil (x ∷ xs) e = absurd (omega arith)

no_slot : (a : Option ℕ) (f : Option BestPrice) → slot_in [] a ≡ Some f → ⊥
no_slot None f h = cc
no_slot (Some n) f h = cc

pub no_slots : (xs : List Order) → HoldsPrices xs []
no_slots xs j t f h = absurd (no_slot (slot_of j t) f h)

no_front_at : (n : ℕ) (a : Option ℕ) (f : Option BestPrice) → slot_in (replicate n None) a ≡ Some f → f ≡ None
no_front_at n None f h = cc
no_front_at n (Some k) f h = get_replicate n k None f h

pub empty_slots : (n : ℕ) → HoldsPrices [] (replicate n None)
empty_slots n j t f h = subst (λ (g : Option BestPrice). IsBestPrice [] j t g) (sym (no_front_at n (slot_of j t) f h))
    (None, (λ o r. not_in_nil o r.stands), refl)

-- ---- one order more

best_of_others : (xs : List Order) (o : Order) (j : Instrument) (t : Side) (b : Option BestPrice)
    → ((o.instrument ≡ j) × (o.side ≡ t) → ⊥) → IsBestPrice xs j t b → IsBestPrice (xs ++ o ∷ []) j t b
best_of_others xs o j t b other h = (h.0, front_of_others xs o j t h.0 other h.1, h.2)

best_of_own : (xs : List Order) (o : Order) (b : Option BestPrice) → IsBestPrice xs o.instrument o.side b
    → becomes_front o b ≡ true → IsBestPrice (xs ++ o ∷ []) o.instrument o.side (Some (best_price_of o))
best_of_own xs o b (None, h, e) t = (Some o, front_of_own xs o o None h refl, refl)
best_of_own xs o b (Some f, h, e) t =
    let ahead : is_ahead o.side o f ≡ true = subst (λ (r : Option BestPrice). becomes_front o r ≡ true) e t in
    (Some o, front_of_own xs o o (Some f) h (rw ahead refl), refl)

best_of_front : (xs : List Order) (o : Order) (b : Option BestPrice) → IsBestPrice xs o.instrument o.side b
    → becomes_front o b ≡ false → IsBestPrice (xs ++ o ∷ []) o.instrument o.side b
best_of_front xs o b (None, h, e) t = let k : true ≡ false =
    subst (λ (r : Option BestPrice). becomes_front o r ≡ false) e t in cc
best_of_front xs o b (Some f, h, e) t =
    let ahead : is_ahead o.side o f ≡ false = subst (λ (r : Option BestPrice). becomes_front o r ≡ false) e t in
    (Some f, front_of_own xs o f (Some f) h (rw ahead refl), e)

module _ (xs : List Order) (slots : List (Option BestPrice)) (o : Order) (h : HoldsPrices xs slots) where
  pub prices_added : (b : Option BestPrice) → known_price slots o.instrument o.side ≡ Some b → becomes_front o b ≡ true
      → HoldsPrices (xs ++ o ∷ []) (with_known_price slots o.instrument o.side (Some (best_price_of o)))
  prices_added b e t =
      prices_put (xs ++ o ∷ []) slots o.instrument o.side (λ j u g n k. best_of_others xs o j u g n (h j u g k))
      (Some (best_price_of o)) (best_of_own xs o b (h o.instrument o.side b e) t)

  pub prices_behind : (b : Option BestPrice) → known_price slots o.instrument o.side ≡ Some b
      → becomes_front o b ≡ false → HoldsPrices (xs ++ o ∷ []) slots
  prices_behind b e t =
      prices_kept (xs ++ o ∷ []) slots o.instrument o.side (λ j u g n k. best_of_others xs o j u g n (h j u g k))
      (λ g k. let same : g ≡ b = cc in subst (λ (r : Option BestPrice). IsBestPrice (xs ++ o ∷ []) o.instrument o.side
      r) (sym same) (best_of_front xs o b (h o.instrument o.side b e) t))

  pub prices_unknown : known_price slots o.instrument o.side ≡ None → HoldsPrices (xs ++ o ∷ []) slots
  prices_unknown e = prices_kept (xs ++ o ∷ []) slots o.instrument o.side
      (λ j u g n k. best_of_others xs o j u g n (h j u g k)) (λ g k. cc)

-- ---- one order less

of_place : (xs : List Order) (place : ℕ) (o : Order) → find (λ o. o.place == place) xs ≡ Some o → Contains xs o
    × (o.place ≡ place)
of_place [] place o h = cc
of_place (x ∷ xs) place o h =
    elim (is_so (x.place == place)) [
      | inl k ↦
          let e : x ≡ o = let g = rw k at h in cc in
          let l : x.place ≡ place = grind (arith, nat_tests) in
          (subst (λ (p : Order). Contains (x ∷ xs) p) e (in_head x xs), ap (λ (p : Order). p.place) (sym e) ∙ l)
      | inr k ↦ let r = of_place xs place o (rw k at h) in (in_tail x xs o r.0, r.1)
    ]

pub rests_at : (xs : List Order) (place : ℕ) (o : Order) → Some o ≡ find (λ o. o.place == place) xs → Contains xs o
    × (o.place ≡ place)
rests_at xs place o h = of_place xs place o (sym h)

pub not_nobody : (xs : List Order) (place : ℕ) (o : Order) → Contains xs o → o.place ≡ place
    → None ≡ find (λ o. o.place == place) xs → ⊥
not_nobody [] place o c e h = not_in_nil o c
not_nobody (x ∷ xs) place o c e h =
    elim (is_so (x.place == place)) [
      | inl k ↦ let g = rw k at h in cc
      | inr k ↦ elim (in_cons_cases x xs o c) [
        | inl d ↦ let f = ap (λ (p : Order). p.place) d in let t : (x.place == place) ≡ true =
            grind (arith, nat_tests) in cc
        | inr d ↦ not_nobody xs place o d e (rw k at h)
      ]
    ]

-- whom the test tells apart
apart : (f : Option Order) (b : Option BestPrice) (place : ℕ) → b ≡ option_map best_price_of f
    → may_be_front b place ≡ false → (h : Order) → f ≡ Some h → h.place ≡ place → ⊥
apart None b place e t h is k = cc
apart (Some g) b place e t h is k =
    let same : g.place ≡ place = ap (λ (p : Order). p.place) (let s : g ≡ h = cc in s) ∙ k in
    let at : may_be_front (Some (best_price_of g)) place ≡ false =
    subst (λ (r : Option BestPrice). may_be_front r place ≡ false) e t in
    let n : (g.place == place) ≡ true = grind (arith, nat_tests) in
    cc

module _ (xs : List Order) (slots : List (Option BestPrice)) (o : Order) (h : HoldsPrices xs slots) (up : Ascends xs)
    (c : Contains xs o) where
  others_removed : (j : Instrument) (t : Side) (b : Option BestPrice) → ((o.instrument ≡ j) × (o.side ≡ t) → ⊥)
      → known_price slots j t ≡ Some b → IsBestPrice (removed o.place xs) j t b
  others_removed j t b n k = let a = h j t b k in (
    a.0,
    front_removed xs o.place j t a.0 (of_another xs o j t a.0 up c n a.1) a.1,
    a.2,
  )

  pub prices_removed : (b : Option BestPrice) → IsBestPrice (removed o.place xs) o.instrument o.side b
      → HoldsPrices (removed o.place xs) (with_known_price slots o.instrument o.side b)
  prices_removed b best = prices_put (removed o.place xs) slots o.instrument o.side others_removed b best

  pub prices_unremoved : ((b : Option BestPrice) → known_price slots o.instrument o.side ≡ Some b
      → may_be_front b o.place ≡ false) → HoldsPrices (removed o.place xs) slots
  prices_unremoved other =
      prices_kept (removed o.place xs) slots o.instrument o.side others_removed
      (λ b k. let a = h o.instrument o.side b k in (
        a.0,
        front_removed xs o.place o.instrument o.side a.0 (apart a.0 b o.place a.2 (other b k)) a.1,
        a.2,
      ))

-- ---- one order changed in its queue

-- the price and the place of a front stay
pub prices_changed : (f : Order → Order) → KeepsQueue f
    → (xs : List Order) (slots : List (Option BestPrice)) (place : ℕ) → HoldsPrices xs slots
    → HoldsPrices (changed f place xs) slots
prices_changed f keeps xs slots place h j t b k =
    let a = h j t b k in
    (option_map (changed_at f place) a.0, any_front_changed f keeps xs place j t a.0 a.1, a.2 ∙ sym (best_changed a.0))
  where
    best_kept : (o : Order) → best_price_of (f o) ≡ best_price_of o
    best_kept o = rw (keeps.price o, keeps.place o) refl

    best_changed : (h : Option Order) → option_map best_price_of (option_map (changed_at f place) h) ≡ option_map
        best_price_of h
    best_changed None = refl
    best_changed (Some o) = ap (λ (p : BestPrice). Some p) (key_kept best_price_of f best_kept place o)

-- ---- what a slot tells

-- a slot without a price is that of an empty queue
pub no_front : (xs : List Order) (j : Instrument) (t : Side) → IsBestPrice xs j t None → IsFront xs j t None
no_front xs j t (None, h, e) = h
no_front xs j t (Some f, h, e) = cc

-- the order of that place is the front
pub front_found : (xs : List Order) (j : Instrument) (t : Side) (b : BestPrice) → Ascends xs
    → IsBestPrice xs j t (Some b) → IsFront xs j t (find (λ o. o.place == b.place) xs)
front_found xs j t b up (None, h, e) = cc
front_found xs j t b up (Some f, h, e) =
    let same : b ≡ best_price_of f = cc in
    let place : f.place ≡ b.place = ap (λ (p : BestPrice). p.place) (sym same) in
    let found = subst (λ (p : ℕ). find (λ (o : Order). o.place == p) xs ≡ Some f) place (is_found xs f up h.0.stands) in
    subst (λ (r : Option Order). IsFront xs j t r) (sym found) h

-- and its level is that of the front
pub level_found : (xs : List Order) (j : Instrument) (t : Side) (b : BestPrice) → IsBestPrice xs j t (Some b)
    → IsFrontLevel xs j t (Some (level_at j t b))
level_found xs j t b (None, h, e) = cc
level_found xs j t b (Some f, h, e) =
    let same : b ≡ best_price_of f = cc in
    let price = ap (λ (p : BestPrice). p.price) same in
    let i = h.0.instrument_is in
    let s = h.0.side_is in
    (Some f, h, rw (i, s, price) refl)

pub no_level : (xs : List Order) (j : Instrument) (t : Side) → IsBestPrice xs j t None → IsFrontLevel xs j t None
no_level xs j t h = (None, no_front xs j t h, refl)
