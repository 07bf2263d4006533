-- a new order is added, trades, and rests or goes
use Rattle.std.proofs.Common.{◌≡◌, ℕ, zero, suc, ◌==◌, ◌+◌, ◌-◌, ◌*◌, min, ◌<◌, ◌≤◌, ℤ, Bool, true, false, not, ◌||◌, cond, List, [], ◌∷◌, ◌++◌, map, filter, drop, length, get_or, Contains, All, Option, Some, None, refl, subst, sym, ap, ◌∙◌, arith, inl, inr, append-nil, nat_lt, Ok, Err, Result}
use Rattle.std.proofs.lemmas.Bool.Decides.{nat_tests}
use Rattle.std.proofs.lemmas.List.Elements.{All-contains, Contains-get_or, Contains-push_cases, filter-append}
use Rattle.spread_rules.specs.declared.order.Order.{Order}
use Rattle.spread_rules.specs.declared.candidate.Candidate.{Candidate}
use Rattle.spread_rules.specs.code.Cases.{with_less_left}
use Rattle.spread_rules.specs.Candidates.{least_left, Pairs, PlacesDiffer}
use Rattle.spread_rules.specs.code.Candidates.{HasOrderPrice}
use Rattle.spread_rules.specs.Clearing.{Trading, clear, removed, reduced}
use Rattle.spread_rules.specs.code.Clearing.{next_candidate, turn, turns, after_match, begin}
use Rattle.spread_rules_rulebook.proofs.lists.Membership.{in_head, in_tail}
use Rattle.spread_rules.proofs.clearings.ClearIsTurns.{clear_is}
use Rattle.spread_rules.proofs.clearings.TurnsEnd.{keeps_turns}
use Rattle.spread_books_search.specs.Listed.{IsNearFirst, IsInMonths}
use Rattle.spread_match_trading.specs.Tradable.{IsTradable}
use Rattle.spread_match_orders.specs.code.Entering.{orders_after_trading}
use Rattle.spread_match_trading.specs.code.Turns.{IsNewest}
use Rattle.spread_rules_rulebook.specs.declared.instrument.Instrument.{Instrument}
use Rattle.spread_rules.specs.declared.outcome.OrderStatus.{OrderStatus}
use Rattle.spread_rules.specs.declared.event.Ticket.{Ticket}
use Rattle.spread_rules.specs.declared.outcome.Outcome.TheVariants.{Rested, Filled, Ended}
use Rattle.spread_match_trading.proofs.turns.NotAgainstItself.{map_push}
use Rattle.spread_match_trading.proofs.turns.StaysTradable.{members_all}
use Rattle.spread_rules.specs.Meaning.{is_refused, outcome_of}
use Rattle.spread_rules.specs.code.Meaning.{refusal_or_instrument, resting}
use Rattle.spread_rules_rulebook.specs.Rulebook.{Rules, find_symbol}

filter_all : (p : Order → Bool) (xs : List Order) → ((o : Order) → Contains xs o → p o ≡ true) → filter p xs ≡ xs
filter_all p [] h = refl
filter_all p (x ∷ xs) h =
    ap (λ (t : Bool). cond t (x ∷ filter p xs) (filter p xs)) (h x (in_head x xs))
    ∙ ap (λ (ys : List Order). x ∷ ys) (filter_all p xs (λ o c. h o (in_tail x xs o c)))

map_none : (f : Order → Order) (xs : List Order) → ((o : Order) → Contains xs o → f o ≡ o) → map f xs ≡ xs
map_none f [] h = refl
map_none f (x ∷ xs) h =
    ap (λ (y : Order). y ∷ map f xs) (h x (in_head x xs))
    ∙ ap (λ (ys : List Order). x ∷ ys) (map_none f xs (λ o c. h o (in_tail x xs o c)))

earlier_place : (a b : ℕ) → a < b → (a == b) ≡ false
earlier_place a b h = grind (arith, nat_tests)

same_number : (k : ℕ) → (k == k) ≡ true
same_number k = grind (arith, nat_tests)

-- the newest order goes, the others stay
pub removed_newest : (own : Order) (xs : List Order) → All (λ o. o.place < own.place) xs
    → removed own.place (xs ++ own ∷ []) ≡ xs
removed_newest own xs h =
    filter-append (λ (o : Order). not (o.place == own.place)) xs (own ∷ [])
    ∙ (ap (λ (ys : List Order). ys ++ filter (λ (o : Order). not (o.place == own.place)) (own ∷ []))
    (filter_all (λ (o : Order). not (o.place == own.place)) xs
    (λ o c. ap not (earlier_place o.place own.place (All-contains (λ (w : Order). w.place < own.place) xs o h c))))
    ∙ (ap (λ (t : Bool). xs ++ cond (not t) (own ∷ []) []) (same_number own.place) ∙ append-nil xs))

-- the newest order loses some, the others stay
pub reduced_newest : (own : Order) (by : ℕ) (xs : List Order) → All (λ o. o.place < own.place) xs
    → reduced own.place by (xs ++ own ∷ []) ≡ xs ++ record own { leaves = own.leaves - by } ∷ []
reduced_newest own by xs h =
    map_push (with_less_left own.place by) xs own
    ∙ (ap (λ (ys : List Order). ys ++ with_less_left own.place by own ∷ [])
    (map_none (with_less_left own.place by) xs (λ o c. ap (λ (t : Bool). cond t (record o { leaves = o.leaves - by }) o)
    (earlier_place o.place own.place (All-contains (λ (w : Order). w.place < own.place) xs o h c))))
    ∙ ap (λ (t : Bool). xs ++ cond t (record own { leaves = own.leaves - by }) own ∷ []) (same_number own.place))

-- ---- a list that can be traded with still can with one order more

push_all : (P : Order → Type 0) (xs : List Order) (y : Order) → All P xs → P y → All P (xs ++ y ∷ [])
push_all P xs y h p = λ k d lt. elim (Contains-push_cases xs y (get_or (xs ++ y ∷ []) k d)
    (Contains-get_or (xs ++ y ∷ []) k d lt)) [
      | inl c ↦ All-contains P xs (get_or (xs ++ y ∷ []) k d) h c
      | inr e ↦ subst P e p
    ]

push_differ : (xs : List Order) (own : Order) → PlacesDiffer xs → All (λ o. o.place < own.place) xs
    → PlacesDiffer (xs ++ own ∷ [])
push_differ xs own d h = λ a b ca cb e. elim (Contains-push_cases xs own a ca) [
  | inl da ↦ elim (Contains-push_cases xs own b cb) [
    | inl db ↦ d a b da db e
    | inr eb ↦ let l = All-contains (λ (w : Order). w.place < own.place) xs a h da in let f : own.place ≡ b.place =
        ap (λ (o : Order). o.place) eb in absurd (omega arith)
  ]
  | inr ea ↦ elim (Contains-push_cases xs own b cb) [
    | inl db ↦ let l = All-contains (λ (w : Order). w.place < own.place) xs b h db in let f : own.place ≡ a.place =
        ap (λ (o : Order). o.place) ea in absurd (omega arith)
    | inr eb ↦ sym ea ∙ eb
  ]
]

pub tradable_more : (months : ℕ) (xs : List Order) (own : Order) → IsTradable months xs
    → All (λ o. o.place < own.place) xs → HasOrderPrice own → IsNearFirst own → IsInMonths months own.instrument
    → 0 < own.leaves → IsTradable months (xs ++ own ∷ [])
tradable_more months xs own t h small listed within left = record {
  small = push_all HasOrderPrice xs own t.small small;
  listed = push_all IsNearFirst xs own t.listed listed;
  within = push_all (λ (o : Order). IsInMonths months o.instrument) xs own t.within within;
  places = push_differ xs own t.places h;
  left = push_all (λ (o : Order). 0 < o.leaves) xs own t.left left;
}

-- ---- what turns keep of the orders

pub traded_all : (P : Order → Type 0) → ((o : Order) (k : ℕ) → P o → P (record o { leaves = k }))
    → (references : List ℤ) (s : Trading) (o : Option Candidate) → All P s.orders
    → All P (after_match references s o).orders
traded_all P keep references s None h = h
traded_all P keep references s (Some o) h = members_all P keep (least_left s.new o.counterparty) s.orders o.counterparty
    h

traded_most : (references : List ℤ) (s : Trading) (o : Option Candidate)
    → (after_match references s o).new.leaves ≤ s.new.leaves
traded_most references s None = omega arith
traded_most references s (Some o) = omega arith

-- ---- what the book does at the end

settled_at : (immediate : Bool) (own : Order) (t : Trading) (b c : Bool) → (t.new.leaves == own.leaves) ≡ c
    → All (λ o. o.place < own.place) t.orders → t.new ≡ record own { leaves = t.new.leaves }
    → t.new.leaves ≤ own.leaves →
    cond b (removed own.place (t.orders ++ own ∷ [])) (cond c (t.orders ++ own ∷ [])
    (reduced own.place (own.leaves - t.new.leaves) (t.orders ++ own ∷ []))) ≡ cond b t.orders
    (t.orders ++ t.new ∷ [])
settled_at immediate own t true c e h n l = removed_newest own t.orders h
settled_at immediate own t false true e h n l =
    let k : t.new.leaves ≡ own.leaves = grind (arith, nat_tests) in
    let same : t.new ≡ own = n ∙ ap (λ (m : ℕ). record own { leaves = m }) k in
    ap (λ (o : Order). t.orders ++ o ∷ []) (sym same)
settled_at immediate own t false false e h n l =
    let k : own.leaves - (own.leaves - t.new.leaves) ≡ t.new.leaves = omega arith in
    let same : record own { leaves = own.leaves - (own.leaves - t.new.leaves) } ≡ t.new =
    ap (λ (m : ℕ). record own { leaves = m }) k ∙ sym n in
    reduced_newest own (own.leaves - t.new.leaves) t.orders h ∙ ap (λ (o : Order). t.orders ++ o ∷ []) same

pub dropped : {X : Type 0} (xs ys : List X) (n : ℕ) → n ≡ length xs → drop n (xs ++ ys) ≡ ys
dropped [] ys n e = rw e refl
dropped (x ∷ xs) ys zero e = absurd (omega arith)
dropped (x ∷ xs) ys (suc n) e = dropped xs ys n (omega arith)

pub below_new : (xs : List Order) (last place : ℕ) → All (λ o. o.place ≤ last) xs → last < place
    → All (λ o. o.place < place) xs
below_new xs last place h l = λ k d lt. let a = h k d lt in omega arith

pub rest_is : (own : Order) (place last : ℕ) (book xs : List Order) → own.place ≡ place → last < place
    → All (λ o. o.place ≤ last) xs → book ≡ xs ++ own ∷ [] → removed own.place book ≡ xs
rest_is own place last book xs p l h e = ap (removed own.place) e
    ∙ removed_newest own xs (below_new xs last own.place h (omega arith))

pub room_new : (len cap got n q leaves r : ℕ) → len + 3 * got ≤ cap → got ≡ min n q → n ≡ r → leaves ≡ q
    → len + 3 * min leaves r ≤ cap
room_new len cap got n q leaves r h e f l = omega arith

not_refused_at : (left : ℕ) (a b : Bool) → is_refused (cond a Filled (cond b (Ended left) Rested)) ≡ false
not_refused_at left true b = refl
not_refused_at left false true = refl
not_refused_at left false false = refl

-- an order that was cleared was not refused
pub not_refused : (immediate : Bool) (left : ℕ) → is_refused (outcome_of immediate left) ≡ false
not_refused immediate left = not_refused_at left (left == 0) immediate

pub first_is_four : (immediate : Bool) (left : ℕ) → ◌≡◌ {A = ℕ} 4 (cond (is_refused (outcome_of immediate left)) 8 4)
first_is_four immediate left = sym (ap (λ (b : Bool). cond b 8 4) (not_refused immediate left))

-- ---- what is not refused

price_ok : (i j : Instrument) (b : Bool) → ◌≡◌ {A = Result Instrument ℕ} (cond b (Err 0) (Ok i)) (Ok j) → i ≡ j
price_ok i j true h = cc
price_ok i j false h = cc

some_quantity : (q : ℕ) (c : Bool) → (q == 0 || c) ≡ false → 0 < q
some_quantity zero c h = cc
some_quantity (suc q) c h = omega arith

most_quantity : (q : ℕ) (c : Bool) → (c || nat_lt 999999 q) ≡ false → q ≤ 999999
most_quantity q true h = cc
most_quantity q false h = grind (arith, nat_tests)

-- its id was not used
pub none_earlier : (rules : Rules) (t : Ticket) (earlier : Option OrderStatus) (named : Option Instrument)
    (i : Instrument) → refusal_or_instrument rules t earlier named ≡ Ok i → earlier ≡ None
none_earlier rules t (Some s) named i e = cc
none_earlier rules t None named i e = refl

pub record IsTaken (rules : Rules) (t : Ticket) (i : Instrument) : Type 0 where
  pub names : find_symbol rules t.symbol ≡ Some i
  pub some : 0 < t.quantity
  pub most : t.quantity ≤ 999999

taken_at : (rules : Rules) (t : Ticket) (i j : Instrument) (a b : Bool)
    → (t.quantity == 0 || nat_lt 999999 t.quantity) ≡ a
    → ◌≡◌ {A = Result Instrument ℕ} (cond a (Err 3) (cond b (Err 0) (Ok i))) (Ok j) → (0 < t.quantity)
    × (t.quantity ≤ 999999) × (i ≡ j)
taken_at rules t i j true b e h = cc
taken_at rules t i j false b e h = (
  some_quantity t.quantity (nat_lt 999999 t.quantity) e,
  most_quantity t.quantity (t.quantity == 0) e,
  price_ok i j b h,
)

taken_by : (rules : Rules) (t : Ticket) (r : Option Instrument) (j : Instrument)
    → refusal_or_instrument rules t None r ≡ Ok j → (r ≡ Some j) × (0 < t.quantity) × (t.quantity ≤ 999999)
taken_by rules t None j h = cc
taken_by rules t (Some i) j h = let k = taken_at rules t i j (t.quantity == 0 || nat_lt 999999 t.quantity) _ refl h in
    (ap (λ (x : Instrument). Some x) k.2, k.0, k.1)

pub taken_is : (rules : Rules) (t : Ticket) (earlier : Option OrderStatus) (j : Instrument)
    → refusal_or_instrument rules t earlier (find_symbol rules t.symbol) ≡ Ok j → IsTaken rules t j
taken_is rules t (Some s) j h = cc
taken_is rules t None j h = let k = taken_by rules t (find_symbol rules t.symbol) j h in
    record { names = k.0; some = k.1; most = k.2 }

module _ (on : Pairs) where
  pub turns_all : (P : Order → Type 0) → ((o : Order) (k : ℕ) → P o → P (record o { leaves = k }))
      → (references : List ℤ) (k : ℕ) (s : Trading) → All P s.orders → All P (turns on references k s).orders
  turns_all P keep references zero s h = h
  turns_all P keep references (suc k) s h = turns_all P keep references k (turn on references s)
      (traded_all P keep references s (next_candidate on s) h)

  pub turns_most : (references : List ℤ) (k : ℕ) (s : Trading) → (turns on references k s).new.leaves ≤ s.new.leaves
  turns_most references zero s = omega arith
  turns_most references (suc k) s = let a = turns_most references k (turn on references s) in let b =
      traded_most references s (next_candidate on s) in omega arith

  -- ---- what clearing keeps of them

  pub clear_all : (P : Order → Type 0) → ((o : Order) (k : ℕ) → P o → P (record o { leaves = k }))
      → (references : List ℤ) (n : Order) (xs : List Order) → All P xs → All P (clear on references n xs).orders
  clear_all P keep references n xs h = subst (λ (s : Trading). All P s.orders) (sym (clear_is on references n xs))
      (turns_all P keep references (length xs) (begin n xs) h)

  pub clear_most : (references : List ℤ) (n : Order) (xs : List Order)
      → (clear on references n xs).new.leaves ≤ n.leaves
  clear_most references n xs = subst (λ (s : Trading). s.new.leaves ≤ n.leaves) (sym (clear_is on references n xs))
      (turns_most references (length xs) (begin n xs))

  pub clear_keeps : (references : List ℤ) (n : Order) (xs : List Order)
      → (clear on references n xs).new ≡ record n { leaves = (clear on references n xs).new.leaves }
  clear_keeps references n xs = subst (λ (s : Trading). s.new ≡ record n { leaves = s.new.leaves })
      (sym (clear_is on references n xs)) (keeps_turns on references (length xs) (begin n xs)).new

  pub settled_is : (references : List ℤ) (immediate : Bool) (own : Order) (xs : List Order)
      → All (λ o. o.place < own.place) xs →
      orders_after_trading immediate own (clear on references own xs).new.leaves
      ((clear on references own xs).orders ++ own ∷ []) ≡ resting immediate (clear on references own xs)
  settled_is references immediate own xs h =
      settled_at immediate own (clear on references own xs) ((clear on references own xs).new.leaves == 0 || immediate)
      ((clear on references own xs).new.leaves == own.leaves) refl
      (clear_all (λ (o : Order). o.place < own.place) (λ o k l. l) references own xs h)
      (clear_keeps references own xs)
      (clear_most references own xs)

  pub newest_after : (references : List ℤ) (own : Order) (xs book : List Order) → All (λ o. o.place < own.place) xs
      → book ≡ (clear on references own xs).orders ++ own ∷ [] → IsNewest own book
  newest_after references own xs book h e = record {
    rest = (clear on references own xs).orders;
    ends = e;
    below =
        clear_all (λ (o : Order). o.place < own.place) (λ o k l. l) references own xs h;
  }

  pub clear_same : (r s : List ℤ) (n m : Order) (ys xs : List Order) → r ≡ s → n ≡ m → ys ≡ xs
      → clear on r n ys ≡ clear on s m xs
  clear_same r s n m ys xs e f k = ap (λ (z : List ℤ). clear on z n ys) e
      ∙ (ap (λ (z : Order). clear on s z ys) f ∙ ap (λ (z : List Order). clear on s m z) k)
