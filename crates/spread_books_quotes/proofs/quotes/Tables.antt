-- a table of what costs the least, through the changes of a book
use Rattle.std.proofs.Common.{◌≡◌, Contains, ℕ, ◌*◌, ◌<◌, ◌≤◌, ◌==◌, Bool, true, List, [], ◌∷◌, ◌++◌, All, Option, Some, None, IfSome, refl, sym, ap, ◌∙◌, subst, arith, inl, inr, slice_set}
use Rattle.std.proofs.lemmas.Bool.Decides.{nat_tests}
use Rattle.std.proofs.lemmas.List.Elements.{All-contains, Contains-push_cases, Contains-append_left}
use Rattle.spread_rules.specs.declared.order.Side.{Side}
use Rattle.spread_rules.specs.declared.order.Side.TheVariants.{Buy, Sell}
use Rattle.spread_rules_rulebook.specs.declared.instrument.Instrument.{Instrument}
use Rattle.spread_rules_rulebook.specs.declared.instrument.Instrument.TheVariants.{Outright, Spread}
use Rattle.spread_rules.specs.declared.order.Order.{Order}
use Rattle.spread_rules.specs.declared.order.Level.{Level}
use Rattle.spread_rules.specs.Candidates.{Pairs}
use Rattle.spread_rules.specs.code.Candidates.{HasOrderPrice}
use Rattle.spread_rules.specs.Clearing.{removed}
use Rattle.spread_rules.specs.Legs.{other_side}
use Rattle.spread_rules_rulebook.specs.Prices.{IsOrderPrice}
use Rattle.spread_rules_rulebook.proofs.lists.Membership.{not_in_nil, from_map}
use Rattle.spread_books_rows.proofs.places.Ascending.{is_so, all_of, from_removed}
use Rattle.spread_books_rows.proofs.places.ChangedAt.{changed_at, changed, key_kept}
use Rattle.spread_books_plain.specs.Queues.{IsFrontLevel}
use Rattle.spread_books_plain.proofs.fronts.Changes.{KeepsQueue}
use Rattle.spread_books_plain.proofs.fronts.FoldGivesFront.{same_queue}
use Rattle.spread_books_plain.proofs.fronts.Slots.{get_set_same, get_set_other, get_replicate}
use Rattle.spread_books_search.specs.Listed.{IsInMonths}
use Rattle.spread_books_plain.specs.declared.pair.PairCost.{PairCost}
use Rattle.spread_books_plain.specs.Pairs.{spread_of, spread_side, IsCheapest}
use Rattle.spread_books_search.specs.code.Cheapest.{IsInColumn, KeepsCost, KeepsColumn, KeepsOthers}
use Rattle.spread_books_quotes.specs.code.QuoteTable.{QuotesView, no_quotes, AreQuotes, known_pair, HasCheapest, AreCheapest, ChangesOneQueue, is_as_good, HasCome, HasLeft, IsListed, IsQuoted, KeepsQuotes, AreAmong}
use Rattle.spread_books_quotes.proofs.quotes.Costs.{others_when_it_comes, others_when_it_leaves, changed_in_queue, own_when_it_comes, own_when_it_leaves}
use Rattle.spread_books_quotes.proofs.quotes.Columns.{kept_row}
use Rattle.spread_books_quotes.proofs.quotes.QueueColumns.{outright_column, spread_column, not_other, other_or_same, back}
use Rattle.spread_books_quotes.proofs.quotes.CostRows.{empty_costs, kept_costs}
use Rattle.spread_books_quotes.specs.code.FrontCosts.{cell_of}

-- ---- cells

cell_once : (s t : Side) (m k : ℕ) → cell_of s m ≡ cell_of t k → (s ≡ t) × (m ≡ k)
cell_once Buy Buy m k e = (refl, omega (arith, e))
cell_once Sell Sell m k e = (refl, omega (arith, e))
cell_once Buy Sell m k e = absurd (omega (arith, e))
cell_once Sell Buy m k e = absurd (omega (arith, e))

pub other_cell : (cells : List (Option PairCost)) (s t : Side) (m k : ℕ) (pair : Option PairCost)
    → ((t ≡ s) × (k ≡ m) → ⊥) → known_pair (slice_set cells (cell_of s m) pair) t k ≡ known_pair cells t k
other_cell cells s t m k pair other = get_set_other cells (cell_of s m) (cell_of t k) pair
    (λ e. let q = cell_once s t m k e in other (sym q.0, sym q.1))

pub own_cell : (on : Pairs) (months : ℕ) (xs : List Order) (cells : List (Option PairCost)) (s : Side) (m : ℕ)
    (pair : Option PairCost) → IsCheapest on xs s m months pair
    → HasCheapest on months xs (slice_set cells (cell_of s m) pair) s m
own_cell on months xs cells s m pair h least e = subst (IsCheapest on xs s m months)
    (sym (get_set_same cells (cell_of s m) pair least e)) h

pub cell_as : (on : Pairs) (months : ℕ) (xs : List Order) (old new : List (Option PairCost)) (t : Side) (m : ℕ)
    → known_pair new t m ≡ known_pair old t m → HasCheapest on months xs old t m → HasCheapest on months xs new t m
cell_as on months xs old new t m same h least e = h least (sym same ∙ e)

-- ---- columns

-- a column that the changed queue is not in
pub column_kept : (xs ys : List Order) (i : Instrument) (s t : Side) (m k : ℕ) → ChangesOneQueue xs ys i s
    → (IsInColumn i s t m k → ⊥) → KeepsColumn xs ys t m k
column_kept xs ys i s t m k one out = record {
  first = one (spread_of m k) (spread_side t m k) (λ e. out (inl e));
  second = one (Outright k) (other_side t) (λ e. out (inr e));
}

-- ---- rows that the changed queue is in, and all others

module _ (on : Pairs) (months : ℕ) (xs ys : List Order) where
  pub outright_renewed : (old new : List (Option PairCost)) (j : ℕ) (s : Side) →
      ((t : Side) (m : ℕ) → (t ≡ other_side s → ⊥) → known_pair new t m ≡ known_pair old t m) →
      ((m : ℕ) → m < months → KeepsOthers xs ys (other_side s) m j → HasCheapest on months xs old (other_side s) m
      → HasCheapest on months ys new (other_side s) m) →
      ChangesOneQueue xs ys (Outright j) s → AreCheapest on months xs old → AreCheapest on months ys new
  outright_renewed old new j s rest own one h t m lt =
      elim (other_or_same t s) [
        | inl e ↦ subst (λ (u : Side). HasCheapest on months ys new u m) (sym e)
            (own m lt (λ k other. column_kept xs ys (Outright j) s (other_side s) m k one
            (λ c. other (outright_column j s (other_side s) m k c).1)) (h (other_side s) m lt))
        | inr e ↦ λ least known.
            let apart : t ≡ other_side s → ⊥ = λ f. not_other s (sym e ∙ f) in
            kept_row on xs ys t m months least
            (λ k below. column_kept xs ys (Outright j) s t m k one
            (λ c. apart (back s t (outright_column j s t m k c).0)))
            (h t m lt least (sym (rest t m apart) ∙ known))
      ]

  pub spread_renewed : (old mid new : List (Option PairCost)) (near far : ℕ) (s : Side) →
      ((t : Side) (m : ℕ) → ((t ≡ other_side s) × (m ≡ near) → ⊥) → known_pair mid t m ≡ known_pair old t m) →
      (near < months → KeepsOthers xs ys (other_side s) near far → HasCheapest on months xs old (other_side s) near
      → HasCheapest on months ys mid (other_side s) near) →
      ((t : Side) (m : ℕ) → ((t ≡ s) × (m ≡ far) → ⊥) → known_pair new t m ≡ known_pair mid t m) →
      (far < months → KeepsOthers xs ys s far near → HasCheapest on months xs mid s far
      → HasCheapest on months ys new s far) →
      ChangesOneQueue xs ys (Spread near far) s → AreCheapest on months xs old → AreCheapest on months ys new
  spread_renewed old mid new near far s rest own rest-2 own-2 one h t m lt =
      elim (other_or_same t s) [
        | inl e ↦ elim (is_so (m == near)) [
          | inl i ↦
              let at : m ≡ near = grind (arith, nat_tests, i) in
              let others : KeepsOthers xs ys (other_side s) near far =
              λ k other. column_kept xs ys (Spread near far) s (other_side s) near k one (λ c.
              elim (spread_column near far s (other_side s) near k c) [
                | inl q ↦ other q.2
                | inr q ↦ not_other s q.0
              ]) in
              let renewed = cell_as on months ys mid new (other_side s) near
              (rest-2 (other_side s) near (λ q. not_other s (sym q.0)))
              (own (subst (λ (k : ℕ). k < months) at lt) others (h (other_side s) near
              (subst (λ (k : ℕ). k < months) at lt))) in
              subst (λ (u : Side). HasCheapest on months ys new u m) (sym e)
              (subst (λ (k : ℕ). HasCheapest on months ys new (other_side s) k) (sym at) renewed)
          | inr i ↦ λ least known.
              let apart : m ≡ near → ⊥ = λ f. grind (arith, nat_tests, i, f) in
              let not_same : t ≡ s → ⊥ = λ f. not_other s (sym f ∙ e) in
              kept_row on xs ys t m months least
              (λ k below. column_kept xs ys (Spread near far) s t m k one (λ c.
              elim (spread_column near far s t m k c) [
                | inl q ↦ apart q.1
                | inr q ↦ not_same (sym q.0)
              ]))
              (h t m lt least (sym (rest t m (λ q. apart q.1)) ∙ (sym (rest-2 t m (λ q. not_same q.0)) ∙ known)))
        ]
        | inr e ↦
            let not_opposite : t ≡ other_side s → ⊥ = λ f. not_other s (sym e ∙ f) in
            elim (is_so (m == far)) [
              | inl i ↦
                  let at : m ≡ far = grind (arith, nat_tests, i) in
                  let others : KeepsOthers xs ys s far near = λ k other. column_kept xs ys (Spread near far) s s far k
                  one (λ c.
                  elim (spread_column near far s s far k c) [
                    | inl q ↦ not_other s q.0
                    | inr q ↦ other q.2
                  ]) in
                  let was = cell_as on months xs old mid s far (rest s far (λ q. not_other s q.0))
                  (h s far (subst (λ (k : ℕ). k < months) at lt)) in
                  subst (λ (u : Side). HasCheapest on months ys new u m) (sym e)
                  (subst (λ (k : ℕ). HasCheapest on months ys new s k) (sym at)
                  (own-2 (subst (λ (k : ℕ). k < months) at lt) others was))
              | inr i ↦ λ least known.
                  let apart : m ≡ far → ⊥ = λ f. grind (arith, nat_tests, i, f) in
                  kept_row on xs ys t m months least
                  (λ k below. column_kept xs ys (Spread near far) s t m k one (λ c.
                  elim (spread_column near far s t m k c) [
                    | inl q ↦ not_opposite (back s t q.0)
                    | inr q ↦ apart q.1
                  ]))
                  (h t m lt least (sym (rest t m (λ q. not_opposite q.0))
                  ∙ (sym (rest-2 t m (λ q. apart q.1)) ∙ known)))
            ]
      ]

  -- ---- where no front costs something else

  pub all_kept : (cells : List (Option PairCost)) → ((j : Instrument) (t : Side) → KeepsCost xs ys j t)
      → AreCheapest on months xs cells → AreCheapest on months ys cells
  all_kept cells keep h t m lt least known =
      kept_row on xs ys t m months least (λ k below. record
      { first = keep (spread_of m k) (spread_side t m k); second = keep (Outright k) (other_side t) })
      (h t m lt least known)

-- in each queue, where that holds of its own and of all others
in_each : (xs ys : List Order) (i : Instrument) (s : Side) → KeepsCost xs ys i s → ChangesOneQueue xs ys i s
    → (j : Instrument) (t : Side) → KeepsCost xs ys j t
in_each xs ys i s own others j t =
    elim (same_queue i j s t) [
      | inl e ↦ subst (λ (k : Instrument). KeepsCost xs ys k t) e.0 (subst (λ (u : Side). KeepsCost xs ys i u) e.1 own)
      | inr e ↦ others j t e
    ]

pub come_one : (xs ys : List Order) (o : Order) (l : Option Level) → HasCome xs ys o l
    → ChangesOneQueue xs ys o.instrument o.side
come_one xs ys o l h j t other = subst (λ (zs : List Order). KeepsCost xs zs j t) (sym h.is)
    (others_when_it_comes xs o j t other)

pub left_one : (xs ys : List Order) (o : Order) (l : Option Level) → HasLeft xs ys o l
    → ChangesOneQueue xs ys o.instrument o.side
left_one xs ys o l h j t other = subst (λ (zs : List Order). KeepsCost xs zs j t) (sym h.is)
    (others_when_it_leaves xs o j t h.ordered h.stood other)

pub none_left : (xs ys : List Order) (o : Order) (l : Option Level) → HasCome xs ys o l → AreAmong xs ys
none_left xs ys o l h p c = subst (λ (zs : List Order). Contains zs p) (sym h.is) (Contains-append_left xs (o ∷ []) p c)

pub none_came : (xs ys : List Order) (o : Order) (l : Option Level) → HasLeft xs ys o l → AreAmong ys xs
none_came xs ys o l h p c = (from_removed o.place xs p (subst (λ (zs : List Order). Contains zs p) h.is c)).0

pub come_kept : (xs ys : List Order) (o : Order) (l : Option Level) → HasCome xs ys o l → is_as_good l o ≡ true
    → (j : Instrument) (t : Side) → KeepsCost xs ys j t
come_kept xs ys o l h good =
    in_each xs ys o.instrument o.side (subst (λ (zs : List Order). KeepsCost xs zs o.instrument o.side) (sym h.is)
    (own_when_it_comes xs o l h.front good)) (come_one xs ys o l h)

pub left_kept : (xs ys : List Order) (o : Order) (l : Option Level) → HasLeft xs ys o l → is_as_good l o ≡ true
    → (j : Instrument) (t : Side) → KeepsCost xs ys j t
left_kept xs ys o l h good =
    in_each xs ys o.instrument o.side
    (subst (λ (zs : List Order). KeepsCost xs zs o.instrument o.side) (sym h.is)
    (own_when_it_leaves xs o l h.ordered h.stood (subst (λ (zs : List Order). IsFrontLevel zs o.instrument o.side l)
    h.is h.front) good))
    (left_one xs ys o l h)

-- ---- the whole table

empty_row : (on : Pairs) (s : Side) (m months : ℕ) → IsCheapest on [] s m months None
empty_row on s m months = record {
  fronts = tt;
  small = tt;
  below = tt;
  covers =
      λ k a b lt p. not_in_nil a p.first.stands;
}

pub empty_table : (on : Pairs) (months : ℕ) → IsQuoted on months [] (no_quotes months)
empty_table on months = record {
  small = all_of HasOrderPrice [] (λ o c. absurd (not_in_nil o c));
  within = all_of (λ (o : Order). IsInMonths months o.instrument) [] (λ o c. absurd (not_in_nil o c));
  hold = record {
    costs = empty_costs on months;
    cheapest = λ s m lt least e. subst (IsCheapest on [] s m months)
        (sym (get_replicate (months * 2) (cell_of s m) None least e)) (empty_row on s m months);
  };
}

-- of more months than the orders are of
pub more_months : (on : Pairs) (xs : List Order) (s : Side) (m months most : ℕ) (least : Option PairCost)
    → months ≤ most → All (λ o. IsInMonths months o.instrument) xs → IsCheapest on xs s m months least
    → IsCheapest on xs s m most least
more_months on xs s m months most least h within c = record {
  fronts = c.fronts;
  small = c.small;
  below = lower least c.below;
  covers = λ k a b lt p.
      let at = subst (λ (i : Instrument). IsInMonths months i) p.second.instrument_is
      (All-contains (λ (o : Order). IsInMonths months o.instrument) xs b within p.second.stands) in
      c.covers k a b at p;
}
  where
    lower : (l : Option PairCost) → IfSome l (λ x. x.other_month < months) → IfSome l (λ x. x.other_month < most)
    lower None b = b
    lower (Some x) b = omega (arith, h, b)

-- ---- what holds of each order

pushed_all : (P : Order → Type 0) (xs : List Order) (o : Order) → All P xs → P o → All P (xs ++ o ∷ [])
pushed_all P xs o h k =
    all_of P (xs ++ o ∷ []) (λ p c.
    elim (Contains-push_cases xs o p c) [
      | inl d ↦ All-contains P xs p h d
      | inr e ↦ subst P e k
    ])

pub removed_all : (P : Order → Type 0) (xs : List Order) (place : ℕ) → All P xs → All P (removed place xs)
removed_all P xs place h = all_of P (removed place xs) (λ o c. All-contains P xs o h (from_removed place xs o c).0)

-- one order more, and the table renewed
pub come_table : (on : Pairs) (months : ℕ) (xs ys : List Order) (o : Order) (l : Option Level) (old new : QuotesView)
    → IsQuoted on months xs old → IsListed months o → HasCome xs ys o l →
    (AreQuotes on months xs old → AreQuotes on months ys new) → IsQuoted on months ys new
come_table on months xs ys o l old new h own come renewed = record {
  small = subst (λ (zs : List Order). All HasOrderPrice zs) (sym come.is)
      (pushed_all HasOrderPrice xs o h.small own.small);
  within = subst (λ (zs : List Order). All (λ (p : Order). IsInMonths months p.instrument) zs) (sym come.is)
      (pushed_all (λ (p : Order). IsInMonths months p.instrument) xs o h.within own.within);
  hold = renewed h.hold;
}

-- one order less, and the table renewed
pub left_table : (on : Pairs) (months : ℕ) (xs ys : List Order) (o : Order) (l : Option Level) (old new : QuotesView)
    → IsQuoted on months xs old → HasLeft xs ys o l →
    (AreQuotes on months xs old → AreQuotes on months ys new) → IsQuoted on months ys new
left_table on months xs ys o l old new h left renewed = record {
  small = subst (λ (zs : List Order). All HasOrderPrice zs) (sym left.is)
      (removed_all HasOrderPrice xs o.place h.small);
  within = subst (λ (zs : List Order). All (λ (p : Order). IsInMonths months p.instrument) zs) (sym left.is)
      (removed_all (λ (p : Order). IsInMonths months p.instrument) xs o.place h.within);
  hold = renewed h.hold;
}

-- an order changed in its queue, and the table as it was
module _ (f : Order → Order) (keeps : KeepsQueue f) (place : ℕ) where
  changed_all : {K : Type 0} (key : Order → K) → ((o : Order) → key (f o) ≡ key o) → (P : K → Type 0) (xs : List Order)
      → All (λ o. P (key o)) xs → All (λ o. P (key o)) (changed f place xs)
  changed_all key kept P xs h =
      all_of (λ (o : Order). P (key o)) (changed f place xs) (λ o c.
      let m = from_map (changed_at f place) xs o c in
      subst P (sym (key_kept key f kept place m.0) ∙ ap key m.2) (All-contains (λ (q : Order). P (key q)) xs m.0 h m.1))

  pub changed_table : (all_on listed : Bool) (on : Pairs) (months : ℕ) (xs : List Order) (quotes : QuotesView)
      → KeepsQuotes all_on listed on months xs quotes → KeepsQuotes all_on listed on months (changed f place xs) quotes
  changed_table all_on listed on months xs quotes h = record {
    most = h.most;
    all_are_on = h.all_are_on;
    quoted = λ e.
        let q = h.quoted e in
        record {
          small = changed_all (λ (o : Order). o.price) keeps.price IsOrderPrice xs q.small;
          within = changed_all (λ (o : Order). o.instrument) keeps.instrument (IsInMonths months) xs q.within;
          hold = record {
            costs = kept_costs on months h.most xs (changed f place xs) quotes.costs
                (λ j t. changed_in_queue f keeps xs place j t) q.hold.costs;
            cheapest = all_kept on months xs (changed f place xs) quotes.cells
                (λ j t. changed_in_queue f keeps xs place j t) q.hold.cheapest;
          };
        };
  }
