-- what a fill does to what was filled
use Rattle.std.proofs.Common.{◌≡◌, ◌≢◌, ℕ, zero, suc, ◌==◌, ◌+◌, ◌-◌, ◌<◌, ◌≤◌, ℤ, Bool, true, false, not, cond, List, [], ◌∷◌, ◌++◌, fold, Contains, Option, Some, None, refl, subst, sym, ap, ◌∙◌, arith, inl, inr, append_assoc, append-nil, filter}
use Rattle.std.specs.List.{sum_by}
use Rattle.std.proofs.lemmas.Bool.Decides.{nat_tests}
use Rattle.std.proofs.lemmas.List.Elements.{Contains-push_cases, filter-append}
use Rattle.std.proofs.lemmas.List.Sums.{sum_by_push}
use Rattle.std.proofs.lemmas.Int.{ints}
use Rattle.spread_rules.specs.declared.order.Side.{Side}
use Rattle.spread_rules.specs.declared.order.Side.TheVariants.{Buy, Sell}
use Rattle.spread_rules.specs.declared.order.Order.{Order}
use Rattle.spread_rules.specs.declared.fill.Fill.{Fill}
use Rattle.spread_rules.specs.declared.candidate.Candidate.{Candidate}
use Rattle.spread_rules.specs.declared.candidate.Counterparty.{Counterparty}
use Rattle.spread_rules.specs.declared.candidate.Counterparty.TheVariants.{Direct, Implied}
use Rattle.spread_rules.specs.code.Cases.{with_less_left}
use Rattle.spread_rules.specs.Candidates.{least_left, AllStandIn, is_within_limit, PlacesDiffer, Pairs, members}
use Rattle.spread_rules.specs.Clearing.{Trading, after_fill, removed, reduced, fills_of, fill_of, leg_prices}
use Rattle.spread_rules.specs.code.Clearing.{next_candidate, turn, turns, after_match}
use Rattle.spread_rules_rulebook.proofs.lists.Membership.{in_cons_cases, not_in_nil, from_map}
use Rattle.spread_rules.proofs.clearings.TurnsEnd.{members_rest, next_meets, next_left, next_least, from_filter, less_place}
use Rattle.spread_match_trading.specs.Tradable.{IsTradable}
use Rattle.spread_match_trading.specs.code.Turns.{AreApart}
use Rattle.spread_match.specs.Sound.{IsCounted, IsNamed, KeepsLimit}
use Rattle.spread_match_trading.proofs.turns.NotAgainstItself.{are_apart}
use Rattle.spread_match_trading.proofs.turns.StaysTradable.{still_tradable}
use Rattle.spread_match_trading.proofs.turns.OneTurn.{least_some}
use Rattle.spread_match_trading.proofs.turns.StaysAfterAFill.{still_there, still_differ}
use Rattle.spread_match_statuses.proofs.status_rows.MarkedRows.{same_number}
use Rattle.spread_rules.specs.Meaning.{filled}
use Rattle.spread_rules.specs.code.Meaning.{PastTicket}

filled_one : (gs : List Fill) (f : Fill) (b : Bool)
    → sum_by (λ g. g.quantity) (gs ++ cond b (f ∷ []) []) ≡ sum_by (λ g. g.quantity) gs + cond b f.quantity 0
filled_one gs f true = sum_by_push (λ (g : Fill). g.quantity) gs f
filled_one gs f false =
    let none : sum_by (λ (g : Fill). g.quantity) gs ≡ sum_by (λ (g : Fill). g.quantity) gs + 0 = omega arith in
    ap (sum_by (λ (g : Fill). g.quantity)) (append-nil gs) ∙ none

pub filled_push : (place : ℕ) (fs : List Fill) (f : Fill)
    → filled place (fs ++ f ∷ []) ≡ filled place fs + cond (f.order == place) f.quantity 0
filled_push place fs f =
    ap (sum_by (λ (g : Fill). g.quantity)) (filter-append (λ (g : Fill). g.order == place) fs (f ∷ []))
    ∙ filled_one (filter (λ (g : Fill). g.order == place) fs) f (f.order == place)

pub test_same : (a b : ℕ) → a ≡ b → (a == b) ≡ true
test_same a b h = grind (arith, nat_tests)

test_other : (a b : ℕ) → a ≢ b → (a == b) ≡ false
test_other a b h = grind (arith, nat_tests)

pub filled_own : (fs : List Fill) (f : Fill) → filled f.order (fs ++ f ∷ []) ≡ filled f.order fs + f.quantity
filled_own fs f = filled_push f.order fs f ∙ ap (λ (t : Bool). filled f.order fs + cond t f.quantity 0)
    (test_same f.order f.order refl)

pub filled_other : (place : ℕ) (fs : List Fill) (f : Fill) → f.order ≢ place
    → filled place (fs ++ f ∷ []) ≡ filled place fs
filled_other place fs f h = let e = ap (λ (t : Bool). filled place fs + cond t f.quantity 0)
    (test_other f.order place h) in let k = filled_push place fs f in omega arith

-- ---- the account of the orders that trade

-- of the new order and all that rest, after some fills
pub record AreCounted (ps : List PastTicket) (past : List Fill) (n : Order) (xs : List Order) (made : List Fill) : Type
    0 where
  pub own : IsCounted ps (past ++ made) n
  pub each : (o : Order) → Contains xs o → IsCounted ps (past ++ made) o
  pub apart : (o : Order) → Contains xs o → o.place < n.place
  pub before : (f : Fill) → Contains made f → f.order ≤ n.place
  pub differ : PlacesDiffer xs
  pub within : (f : Fill) → Contains (past ++ made) f → filled f.order (past ++ made) ≤ f.total
  pub limits : (f : Fill) → Contains (past ++ made) f → KeepsLimit ps f
  pub named : (f : Fill) → Contains (past ++ made) f → IsNamed ps f.session f.id

-- a fill of q of that order
pub record IsFill (f : Fill) (o : Order) (q : ℕ) : Type 0 where
  pub order : f.order ≡ o.place
  pub session : f.session ≡ o.session
  pub id : f.id ≡ o.id
  pub quantity : f.quantity ≡ q
  pub leaves : f.leaves ≡ o.leaves - q
  pub total : f.total ≡ o.quantity
  pub side : f.side ≡ o.side
  pub within : is_within_limit o.side o.price f.price ≡ true

counted_less : (ps : List PastTicket) (fs : List Fill) (f : Fill) (o : Order) (q : ℕ) → IsFill f o q → q ≤ o.leaves
    → IsCounted ps fs o → IsCounted ps (fs ++ f ∷ []) (record o { leaves = o.leaves - q })
counted_less ps fs f o q is l c =
    let e : filled o.place (fs ++ f ∷ []) ≡ filled o.place fs + f.quantity =
    subst (λ (k : ℕ). filled k (fs ++ f ∷ []) ≡ filled k fs + f.quantity) is.order (filled_own fs f) in
    let k = is.quantity in let h = c.counts in
    record {
      counts = omega arith;
      totals = λ g d m. elim (Contains-push_cases fs f g d) [
        | inl k ↦ c.totals g k m
        | inr e2 ↦ subst (λ (x : Fill). o.quantity ≤ x.total) e2
            (let t = is.total in omega arith)
      ];
      entry = let w = c.entry in record { new = w.new; entered = w.entered; at = w.at; side = w.side; price = w.price };
      named = c.named;
    }

counted_other : (ps : List PastTicket) (fs : List Fill) (f : Fill) (o : Order) → f.order ≢ o.place → IsCounted ps fs o
    → IsCounted ps (fs ++ f ∷ []) o
counted_other ps fs f o n c = let e = filled_other o.place fs f n in let h = c.counts in record {
  counts = omega arith;
  totals = λ g d m. elim (Contains-push_cases fs f g d)
      [ inl k ↦ c.totals g k m | inr e2 ↦ absurd (n (ap (λ (x : Fill). x.order) e2 ∙ m)) ];
  entry = c.entry;
  named = c.named;
}

moved : (ps : List PastTicket) (past made : List Fill) (f : Fill) (o : Order)
    → IsCounted ps ((past ++ made) ++ f ∷ []) o → IsCounted ps (past ++ (made ++ f ∷ [])) o
moved ps past made f o h = subst (λ (fs : List Fill). IsCounted ps fs o) (append_assoc past made (f ∷ [])) h

not_below : (a b : ℕ) → a < b → a ≢ b
not_below a b h = λ e. omega arith

more_before : (n : Order) (made : List Fill) (f : Fill) → ((g : Fill) → Contains made g → g.order ≤ n.place)
    → f.order ≤ n.place → (g : Fill) → Contains (made ++ f ∷ []) g → g.order ≤ n.place
more_before n made f h k = λ g c. elim (Contains-push_cases made f g c)
    [ inl d ↦ h g d | inr e ↦ subst (λ (x : Fill). x.order ≤ n.place) e k ]

within_at : (fs : List Fill) (f g : Fill) (done quantity : ℕ) (b : Bool) → (f.order == g.order) ≡ b
    → filled g.order fs ≤ g.total → filled f.order (fs ++ f ∷ []) ≤ quantity → (f.order ≡ g.order → quantity ≤ g.total)
    → filled g.order (fs ++ f ∷ []) ≤ g.total
within_at fs f g done quantity true e h k t =
    let same = same_number f.order g.order e in
    let total = t same in
    let l = subst (λ (x : ℕ). filled x (fs ++ f ∷ []) ≤ quantity) same k in omega arith
within_at fs f g done quantity false e h k t =
    let other = filled_other g.order fs f (λ j. (let u : (f.order == g.order) ≡ true = test_same f.order g.order j in
    let no : true ≡ false = sym u ∙ e in cc)) in omega arith

more_within : (ps : List PastTicket) (fs : List Fill) (f : Fill) (o : Order) (q : ℕ) → IsFill f o q → q ≤ o.leaves
    → IsCounted ps fs o → ((g : Fill) → Contains fs g → filled g.order fs ≤ g.total) →
    (g : Fill) → Contains (fs ++ f ∷ []) g → filled g.order (fs ++ f ∷ []) ≤ g.total
more_within ps fs f o q is l c h = λ g d.
    let e : filled f.order (fs ++ f ∷ []) ≡ filled f.order fs + f.quantity = filled_own fs f in
    let a : filled f.order fs ≡ filled o.place fs = ap (λ (k : ℕ). filled k fs) is.order in
    let k = is.quantity in let w = c.counts in
    let most : filled f.order (fs ++ f ∷ []) ≤ o.quantity = omega arith in
    elim (Contains-push_cases fs f g d) [
      | inl m ↦ within_at fs f g 0 o.quantity (f.order == g.order) refl (h g m) most
          (λ j. c.totals g m (sym j ∙ is.order))
      | inr m ↦ subst (λ (x : Fill). filled x.order (fs ++ f ∷ []) ≤ x.total) m (let t = is.total in omega arith)
    ]

more_limits : (ps : List PastTicket) (fs : List Fill) (f : Fill) (o : Order) (q : ℕ) → IsFill f o q → IsCounted ps fs o
    → ((g : Fill) → Contains fs g → KeepsLimit ps g) → (g : Fill) → Contains (fs ++ f ∷ []) g → KeepsLimit ps g
more_limits ps fs f o q is c h = λ g d. elim (Contains-push_cases fs f g d) [
  | inl m ↦ h g m
  | inr m ↦ subst (KeepsLimit ps) m (let w = c.entry in record {
    new = w.new;
    entered = w.entered;
    at = w.at ∙ sym is.order;
    side = w.side ∙ sym is.side;
    within = rw (w.side, w.price) is.within;
  })
]

more_named : (ps : List PastTicket) (fs : List Fill) (f : Fill) (o : Order) (q : ℕ) → IsFill f o q → IsCounted ps fs o
    → ((g : Fill) → Contains fs g → IsNamed ps g.session g.id) → (g : Fill) → Contains (fs ++ f ∷ []) g
    → IsNamed ps g.session g.id
more_named ps fs f o q is c h = λ g d. elim (Contains-push_cases fs f g d) [
  | inl m ↦ h g m
  | inr m ↦ subst (λ (x : Fill). IsNamed ps x.session x.id) m (let w = c.named in record {
    new = w.new;
    entered = w.entered;
    session_is = w.session_is ∙ sym is.session;
    id_is = w.id_is ∙ sym is.id;
  })
]

limit_itself : (side : Side) (price : ℤ) → is_within_limit side price price ≡ true
limit_itself Buy price = grind (arith, ints)
limit_itself Sell price = grind (arith, ints)

-- the new order's fill
pub own_filled : (ps : List PastTicket) (past : List Fill) (n : Order) (xs : List Order) (made : List Fill) (f : Fill)
    (q : ℕ) → IsFill f n q → q ≤ n.leaves → 0 < q →
    AreCounted ps past n xs made → AreCounted ps past (record n { leaves = n.leaves - q }) xs (made ++ f ∷ [])
own_filled ps past n xs made f q is l s h = record {
  own = moved ps past made f (record n { leaves = n.leaves - q }) (counted_less ps (past ++ made) f n q is l h.own);
  each = λ o c. moved ps past made f o (counted_other ps (past ++ made) f o
      (λ e. not_below o.place n.place (h.apart o c) (sym e ∙ is.order)) (h.each o c));
  apart = h.apart;
  before = more_before n made f h.before (let k = is.order in omega arith);
  differ = h.differ;
  within = subst (λ (fs : List Fill). (g : Fill) → Contains fs g → filled g.order fs ≤ g.total)
      (append_assoc past made (f ∷ [])) (more_within ps (past ++ made) f n q is l h.own h.within);
  limits = subst (λ (fs : List Fill). (g : Fill) → Contains fs g → KeepsLimit ps g) (append_assoc past made (f ∷ []))
      (more_limits ps (past ++ made) f n q is h.own h.limits);
  named = subst (λ (fs : List Fill). (g : Fill) → Contains fs g → IsNamed ps g.session g.id)
      (append_assoc past made (f ∷ [])) (more_named ps (past ++ made) f n q is h.own h.named);
}

no_place : (place : ℕ) (x : Order) → (x.place == place) ≡ false → x.place ≢ place
no_place place x e = λ k. (let t : (x.place == place) ≡ true = test_same x.place place k in let no : true ≡ false =
    sym t ∙ e in cc)

kept_at : (place : ℕ) (x : Order) (ys : List Order) (o : Order) (b : Bool) → (x.place == place) ≡ b
    → (Contains ys o → o.place ≢ place) → Contains (cond (not b) (x ∷ ys) ys) o → o.place ≢ place
kept_at place x ys o true e on c = on c
kept_at place x ys o false e on c = elim (in_cons_cases x ys o c)
    [ inl s ↦ subst (λ (w : Order). w.place ≢ place) s (no_place place x e) | inr d ↦ on d ]

pub kept_other : (place : ℕ) (xs : List Order) (o : Order) → Contains (removed place xs) o → o.place ≢ place
kept_other place [] o c = absurd (not_in_nil o c)
kept_other place (x ∷ xs) o c = kept_at place x (removed place xs) o (x.place == place) refl (kept_other place xs o) c

less_cases : (P Q : Order → Type 0) (m o : Order) (q : ℕ) (b : Bool) → (o.place == m.place) ≡ b
    → (o.place ≡ m.place → o ≡ m) → (P m → Q (record m { leaves = m.leaves - q })) → (o.place ≢ m.place → P o → Q o)
    → P o →
    Q (cond b (record o { leaves = o.leaves - q }) o)
less_cases P Q m o q true e d less other k =
    let same = d (same_number o.place m.place e) in subst (λ (w : Order). Q (record w { leaves = w.leaves - q }))
    (sym same) (less (subst P same k))
less_cases P Q m o q false e d less other k = other (no_place m.place o e) k

-- what then holds of each order that rests: of the member, and of every other
pub each_after : (P Q : Order → Type 0) (xs : List Order) (m : Order) (q : ℕ) (b : Bool) → Contains xs m
    → PlacesDiffer xs → (P m → Q (record m { leaves = m.leaves - q })) → ((o : Order) → o.place ≢ m.place → P o → Q o)
    → ((o : Order) → Contains xs o → P o) →
    (o : Order) → Contains (cond b (removed m.place xs) (reduced m.place q xs)) o → Q o
each_after P Q xs m q true s d less other h = λ o c. other o (kept_other m.place xs o c)
    (h o (from_filter (λ (w : Order). not (w.place == m.place)) xs o c))
each_after P Q xs m q false s d less other h = λ o c.
    let r = from_map (with_less_left m.place q) xs o c in
    subst Q r.2 (less_cases P Q m r.0 q (r.0.place == m.place) refl (d r.0 m r.1 s) less (other r.0) (h r.0 r.1))

apart_after : (n : Order) (xs : List Order) (m : Order) (q : ℕ) (b : Bool)
    → ((o : Order) → Contains xs o → o.place < n.place) → (o : Order)
    → Contains (cond b (removed m.place xs) (reduced m.place q xs)) o → o.place < n.place
apart_after n xs m q true h = λ o c. h o (from_filter (λ (w : Order). not (w.place == m.place)) xs o c)
apart_after n xs m q false h = λ o c.
    let r = from_map (with_less_left m.place q) xs o c in
    let p : r.0.place ≡ o.place = sym (less_place m.place q r.0 (r.0.place == m.place))
    ∙ ap (λ (w : Order). w.place) r.2 in
    subst (λ (k : ℕ). k < n.place) p (h r.0 r.1)

-- a member's fill
pub member_filled : (ps : List PastTicket) (past : List Fill) (n : Order) (xs : List Order) (made : List Fill)
    (f : Fill) (m : Order) (q : ℕ) → Contains xs m → IsFill f m q → q ≤ m.leaves → 0 < q →
    AreCounted ps past n xs made → AreCounted ps past n (after_fill q xs m) (made ++ f ∷ [])
member_filled ps past n xs made f m q c is l s h = record {
  own = moved ps past made f n (counted_other ps (past ++ made) f n
      (λ e. not_below m.place n.place (h.apart m c) (sym is.order ∙ e)) h.own);
  each = λ o d. moved ps past made f o
      (each_after (IsCounted ps (past ++ made)) (IsCounted ps ((past ++ made) ++ f ∷ [])) xs m q (m.leaves == q) c
      h.differ (counted_less ps (past ++ made) f m q is l)
      (λ w k. counted_other ps (past ++ made) f w (λ e. k (sym e ∙ is.order))) h.each o d);
  apart = apart_after n xs m q (m.leaves == q) h.apart;
  before = more_before n made f h.before (let k = is.order in let a = h.apart m c in omega arith);
  differ = still_differ q xs m (m.leaves == q) h.differ;
  within = subst (λ (fs : List Fill). (g : Fill) → Contains fs g → filled g.order fs ≤ g.total)
      (append_assoc past made (f ∷ [])) (more_within ps (past ++ made) f m q is l (h.each m c) h.within);
  limits = subst (λ (fs : List Fill). (g : Fill) → Contains fs g → KeepsLimit ps g) (append_assoc past made (f ∷ []))
      (more_limits ps (past ++ made) f m q is (h.each m c) h.limits);
  named = subst (λ (fs : List Fill). (g : Fill) → Contains fs g → IsNamed ps g.session g.id)
      (append_assoc past made (f ∷ [])) (more_named ps (past ++ made) f m q is (h.each m c) h.named);
}

-- what a fill of the new order keeps, and a fill of a member, a whole turn keeps
pub turn_keeps : (C : Order → List Order → List Fill → Type 0) →
    ((n : Order) (xs : List Order) (made : List Fill) (f : Fill) (q : ℕ) → IsFill f n q → q ≤ n.leaves → 0 < q
    → C n xs made → C (record n { leaves = n.leaves - q }) xs (made ++ f ∷ [])) →
    ((n : Order) (xs : List Order) (made : List Fill) (f : Fill) (m : Order) (q : ℕ) → Contains xs m → IsFill f m q
    → q ≤ m.leaves → 0 < q → C n xs made → C n (after_fill q xs m) (made ++ f ∷ [])) →
    (references : List ℤ) (n : Order) (xs : List Order) (made : List Fill) (p : Counterparty) (price : ℤ)
    → AllStandIn xs p → AreApart p → 0 < least_left n p → is_within_limit n.side n.price price ≡ true
    → C n xs made →
    C (record n { leaves = n.leaves - least_left n p }) (fold (after_fill (least_left n p)) xs (members p))
    (made ++ fills_of references n (record { price = price; counterparty = p }))
turn_keeps C own member references n xs made (Direct a) price c d s u h =
    let q = least_left n (Direct a) in
    let legs = leg_prices references n.instrument price (Direct a) in
    let f = fill_of n.place q legs n price in
    let g = fill_of n.place q legs a a.price in
    let one = own n xs made f q (record {
      order = refl;
      session = refl;
      id = refl;
      quantity = refl;
      leaves = refl;
      total = refl;
      side = refl;
      within = u;
    }) (omega arith) s h in
    let two = member (record n { leaves = n.leaves - q }) xs (made ++ f ∷ []) g a q c
    (record {
      order = refl;
      session = refl;
      id = refl;
      quantity = refl;
      leaves = refl;
      total = refl;
      side = refl;
      within = limit_itself a.side a.price;
    }) (omega arith) s one in
    subst (C (record n { leaves = n.leaves - q }) (after_fill q xs a)) (append_assoc made (f ∷ []) (g ∷ [])) two
turn_keeps C own member references n xs made (Implied a b) price c d s u h =
    let q = least_left n (Implied a b) in
    let legs = leg_prices references n.instrument price (Implied a b) in
    let f = fill_of n.place q legs n price in
    let g = fill_of n.place q legs a a.price in
    let k = fill_of n.place q legs b b.price in
    let one = own n xs made f q (record {
      order = refl;
      session = refl;
      id = refl;
      quantity = refl;
      leaves = refl;
      total = refl;
      side = refl;
      within = u;
    }) (omega arith) s h in
    let two = member (record n { leaves = n.leaves - q }) xs (made ++ f ∷ []) g a q c.0
    (record {
      order = refl;
      session = refl;
      id = refl;
      quantity = refl;
      leaves = refl;
      total = refl;
      side = refl;
      within = limit_itself a.side a.price;
    }) (omega arith) s one in
    let three = member (record n { leaves = n.leaves - q }) (after_fill q xs a) ((made ++ f ∷ []) ++ g ∷ []) k b q
    (still_there q xs a b (a.leaves == q) d c.1) (record {
      order = refl;
      session = refl;
      id = refl;
      quantity = refl;
      leaves = refl;
      total = refl;
      side = refl;
      within =
          limit_itself b.side b.price;
    }) (omega arith) s two in
    subst (C (record n { leaves = n.leaves - q }) (after_fill q (after_fill q xs a) b))
    (ap (λ (fs : List Fill). fs ++ k ∷ []) (append_assoc made (f ∷ []) (g ∷ []))
    ∙ append_assoc made (f ∷ g ∷ []) (k ∷ [])) three

-- something is left of each that rests, and the account is right
pub record IsRunning (months : ℕ) (ps : List PastTicket) (past : List Fill) (t : Trading) : Type 0 where
  pub tradable : IsTradable months t.orders
  pub counted : AreCounted ps past t.new t.orders t.fills

module _ (on : Pairs) where
  pub running_with : (references : List ℤ) (months : ℕ) (ps : List PastTicket) (past : List Fill) (t : Trading)
      (r : Option Candidate) → next_candidate on t ≡ r → IsRunning months ps past t
      → IsRunning months ps past (after_match references t r)
  running_with references months ps past t None e h = h
  running_with references months ps past t (Some o) e h =
      let stands = members_rest on t o e in
      let meets = next_meets on t o e in
      let apart = are_apart on t.new t.orders o.counterparty o.price h.tradable.places stands meets in
      record {
        tradable = still_tradable months t.new t.orders o.counterparty h.tradable stands apart;
        counted = turn_keeps (AreCounted ps past) (own_filled ps past) (member_filled ps past) references t.new t.orders
            t.fills o.counterparty o.price stands apart (least_some t.new t.orders o.counterparty stands h.tradable.left
            (next_left on t o e)) (next_least on t o e).eligible.within h.counted;
      }

  pub running : (references : List ℤ) (months : ℕ) (ps : List PastTicket) (past : List Fill) (k : ℕ) (t : Trading)
      → IsRunning months ps past t → IsRunning months ps past (turns on references k t)
  running references months ps past zero t h = h
  running references months ps past (suc k) t h = running references months ps past k (turn on references t)
      (running_with references months ps past t (next_candidate on t) refl h)
