-- the quote of the fronts that cost the least is the least in rank of all implied candidates
use Rattle.std.proofs.Common.{◌≡◌, ℕ, ℤ, Bool, true, false, cond, List, Option, Some, None, IsSomeAnd, MatchOption, sym, ap, ◌∙◌, subst, arith}
use Rattle.std.proofs.lemmas.Int.{ints}
use Rattle.std.proofs.lemmas.List.Elements.{All-contains}
use Rattle.spread_rules_ids.specs.declared.limits.TheConstants.{MAX_MONTHS}
use Rattle.spread_rules.specs.declared.order.Side.{Side}
use Rattle.spread_rules.specs.declared.order.Side.TheVariants.{Buy, Sell}
use Rattle.spread_rules_rulebook.specs.declared.instrument.Instrument.{Instrument}
use Rattle.spread_rules_rulebook.specs.declared.instrument.Instrument.TheVariants.{Outright, Spread}
use Rattle.spread_rules.specs.declared.order.Order.{Order}
use Rattle.spread_rules.specs.declared.candidate.Candidate.{Candidate}
use Rattle.spread_rules.specs.declared.candidate.Choice.{Choice}
use Rattle.spread_rules.specs.declared.candidate.Counterparty.TheVariants.{Implied}
use Rattle.spread_rules.specs.Candidates.{Pairs, price_of, is_within_limit, is_before, IsEligible}
use Rattle.spread_rules.specs.code.Candidates.{all_on, takes_part, implied_price, candidate_of, candidate_at}
use Rattle.spread_rules.specs.Legs.{other_side}
use Rattle.spread_rules.specs.code.Quiet.{Rests}
use Rattle.spread_books_search.specs.Listed.{IsInMonths}
use Rattle.spread_books.specs.Quotes.{pair_at, IsImplied, IsLeastImplied, IsQuote, AreQuotable}
use Rattle.spread_books_plain.specs.declared.pair.PairCost.{PairCost}
use Rattle.spread_books_search.specs.code.Best.{Beats, CoversTwo}
use Rattle.spread_books_plain.specs.Pairs.{spread_of, spread_side, IsCheapest}
use Rattle.spread_books.specs.code.PairQuote.{AreFrontsOf, IsQuoteOfFronts}
use Rattle.spread_rules.proofs.ranks.PairsSwitched.{price_on, priced, part_of}
use Rattle.spread_books_search.proofs.fronts.BeatAnyPair.{fronts_beat}
use Rattle.spread_books_search.proofs.fronts.MonthPairs.{cheapest_beats, none_beats, fronts_price}
use Rattle.spread_books_search.proofs.fronts.Suffice.{month_below, spread_pair}

-- ---- an order whose limit is the candidate's price

-- the same order with that limit
abbrev limited : Order → ℤ → Order
limited n price = record n { price = price }

within_itself : (s : Side) (p : ℤ) → is_within_limit s p p ≡ true
within_itself Buy p = grind (arith, ints)
within_itself Sell p = grind (arith, ints)

module _ (on : Pairs) where
  -- ---- fronts of a pair that takes part

  fronts_on : (n : Order) (xs : List Order) (first : Instrument) (first_side : Side) (second : Instrument)
      (second_side : Side) (quote : Option Choice) → takes_part on n.instrument first ≡ true →
      MatchOption quote
      ((a b : Order) (price : ℤ) → Rests xs first first_side a → Rests xs second second_side b
      → price_of all_on n (Implied a b) ≡ Some price → ⊥)
      (AreFrontsOf all_on n xs first first_side second second_side) →
      MatchOption quote
      ((a b : Order) (price : ℤ) → Rests xs first first_side a → Rests xs second second_side b
      → price_of on n (Implied a b) ≡ Some price → ⊥)
      (AreFrontsOf on n xs first first_side second second_side)
  fronts_on n xs first first_side second second_side None part none = λ a b price r s e.
      let at : takes_part on n.instrument a.instrument ≡ true = ap (takes_part on n.instrument) r.instrument_is
      ∙ part in
      none a b price r s (sym (price_on on n a b at) ∙ e)
  fronts_on n xs first first_side second second_side (Some quote) part f =
      let at : takes_part on n.instrument f.a.instrument ≡ true =
      ap (takes_part on n.instrument) f.front.0.instrument_is ∙ part in
      record {
        a = f.a;
        b = f.b;
        front = f.front;
        other = f.other;
        meet = price_on on n f.a f.b at ∙ f.meet;
        quantity =
            f.quantity;
        members = f.members;
      }

  pub quote_on : (xs : List Order) (instrument : Instrument) (side : Side) (first : Instrument) (first_side : Side)
      (second : Instrument) (second_side : Side) (quote : Option Choice) → takes_part on instrument first ≡ true →
      IsQuoteOfFronts all_on xs instrument side first first_side second second_side quote
      → IsQuoteOfFronts on xs instrument side first first_side second second_side quote
  quote_on xs instrument side first first_side second second_side quote part f n is at =
      fronts_on n xs first first_side second second_side quote
      (ap (λ (i : Instrument). takes_part on i first) is ∙ part) (f n is at)

  eligible : (n : Order) (xs : List Order) (a b : Order) (price : ℤ) → IsImplied on n xs a b price
      → IsEligible on (limited n price) xs (pair_at a b price)
  eligible n xs a b price i = record { stands = i.stand; meets = i.meet; within = within_itself n.side price }

  beaten_of : (n q : Order) (o p : Candidate) (b : Bool)
      → IsSomeAnd (cond b (Some o) None) (λ (r : Candidate). is_before q p r ≡ false) → is_before q p o ≡ false
  beaten_of n q o p true h = h
  beaten_of n q o p false h = absurd h

  -- a candidate that is beaten under that limit ranks no earlier
  no_earlier : (n a b x y : Order) (at price : ℤ) → price_of on n (Implied a b) ≡ Some at
      → Beats (limited n price) (candidate_of on (limited n price) (Implied a b)) (pair_at x y price)
      → is_before n (pair_at x y price) (pair_at a b at) ≡ false
  no_earlier n a b x y at price meet h =
      beaten_of n (limited n price) (pair_at a b at) (pair_at x y price) (is_within_limit n.side price at)
      (subst (λ (r : Option ℤ). IsSomeAnd (candidate_at (limited n price) (Implied a b) r)
      (λ (r : Candidate). is_before (limited n price) (pair_at x y price) r ≡ false)) meet h)

  -- ---- fronts that beat every pair

  least_of_fronts : (n : Order) (xs : List Order) (first : Instrument) (first_side : Side) (second : Instrument)
      (second_side : Side) (quote : Choice) (f : AreFrontsOf on n xs first first_side second second_side quote) →
      ((x y : Order) (price : ℤ) → IsImplied on n xs x y price
      → CoversTwo on (limited n price) xs first first_side second second_side
      (candidate_of on (limited n price) (Implied f.a f.b))
      → Beats (limited n price) (candidate_of on (limited n price) (Implied f.a f.b)) (pair_at x y price)) →
      IsLeastImplied on n xs quote
  least_of_fronts n xs first first_side second second_side quote f beat = record {
    first = f.a;
    second = f.b;
    implied = record { stand = (f.front.0.stands, f.other.0.stands); meet = f.meet };
    least = λ x y price i. no_earlier n f.a f.b x y quote.price price f.meet
        (beat x y price i (fronts_beat on (limited n price) xs first first_side second second_side f.a f.b f.front
        f.other));
    quantity = f.quantity;
    members = f.members;
  }

  -- ---- against an order of a month

  pub no_quote : (xs : List Order) (side : Side) (m : ℕ) → AreQuotable xs → IsCheapest on xs side m MAX_MONTHS None
      → IsQuote on xs (Outright m) side None
  no_quote xs side m q c n is at a b price i =
      none_beats on (limited n price) xs m MAX_MONTHS None is q.listed
      (subst (λ (s : Side). IsCheapest on xs s m MAX_MONTHS None) (sym at) c) a b price (eligible n xs a b price i)
      (month_below on MAX_MONTHS b (All-contains (λ (o : Order). IsInMonths MAX_MONTHS o.instrument) xs b q.within
      i.stand.1))

  outright_at : (xs : List Order) (m : ℕ) (l : PairCost) → AreQuotable xs → (n : Order) → n.instrument ≡ Outright m
      → IsCheapest on xs n.side m MAX_MONTHS (Some l) → (quote : Option Choice) →
      MatchOption quote
      ((a b : Order) (price : ℤ) → Rests xs (spread_of m l.other_month) (spread_side n.side m l.other_month) a
      → Rests xs (Outright l.other_month) (other_side n.side) b → price_of on n (Implied a b) ≡ Some price → ⊥)
      (AreFrontsOf on n xs (spread_of m l.other_month) (spread_side n.side m l.other_month) (Outright l.other_month)
      (other_side n.side)) →
      MatchOption quote ((a b : Order) (price : ℤ) → IsImplied on n xs a b price → ⊥) (IsLeastImplied on n xs)
  outright_at xs m l q n is c None none =
      let f = c.fronts in
      let price = fronts_price on n m l.other_month xs f.a f.b is
      (record { is_on = f.is_on; first = f.first.0; second = f.second.0 }) in
      absurd (none f.a f.b price.0 f.first.0 f.second.0 price.1)
  outright_at xs m l q n is c (Some quote) f =
      least_of_fronts n xs (spread_of m l.other_month) (spread_side n.side m l.other_month) (Outright l.other_month)
      (other_side n.side) quote f
      (λ x y price i covers.
      cheapest_beats on (limited n price) xs m MAX_MONTHS l (candidate_of on (limited n price) (Implied f.a f.b)) is
      q.listed c covers x y price (eligible n xs x y price i)
      (month_below on MAX_MONTHS y (All-contains (λ (o : Order). IsInMonths MAX_MONTHS o.instrument) xs y q.within
      i.stand.1)))

  pub outright_quote : (xs : List Order) (side : Side) (m : ℕ) (l : PairCost) (quote : Option Choice) → AreQuotable xs
      → IsCheapest on xs side m MAX_MONTHS (Some l) →
      IsQuoteOfFronts on xs (Outright m) side (spread_of m l.other_month) (spread_side side m l.other_month)
      (Outright l.other_month) (other_side side) quote → IsQuote on xs (Outright m) side quote
  outright_quote xs side m l quote q c f n is at =
      outright_at xs m l q n is (subst (λ (s : Side). IsCheapest on xs s m MAX_MONTHS (Some l)) (sym at) c) quote
      (subst (λ (s : Side). MatchOption quote ((a b : Order) (price : ℤ)
      → Rests xs (spread_of m l.other_month) (spread_side s m l.other_month) a
      → Rests xs (Outright l.other_month) (other_side s) b → price_of on n (Implied a b) ≡ Some price → ⊥)
      (AreFrontsOf on n xs (spread_of m l.other_month) (spread_side s m l.other_month) (Outright l.other_month)
      (other_side s))) (sym at) (f n is at))

  -- ---- against an order of a spread

  record RestsAsPair (xs : List Order) (i j : ℕ) (side : Side) (a b : Order) : Type 0 where
    first : Rests xs (Outright i) (other_side side) a
    second : Rests xs (Outright j) side b

  pair_rests : (n : Order) (xs : List Order) (i j : ℕ) (a b : Order) (price : ℤ) → n.instrument ≡ Spread i j
      → IsImplied on n xs a b price → RestsAsPair xs i j n.side a b
  pair_rests n xs i j a b price is p =
      let shape = spread_pair on i j n.side a.side a.instrument b.side b.instrument a.price b.price price
      (subst (λ (u : Instrument). implied_price n.side u a.side a.instrument b.side b.instrument a.price b.price ≡ Some
      price) is (priced on n a b price p.meet)) in
      record {
        first = record { stands = p.stand.0; instrument_is = shape.of; side_is = shape.sided };
        second = record { stands = p.stand.1; instrument_is = shape.and; side_is = shape.and_on };
      }

  spread_quote_at : (xs : List Order) (i j : ℕ) (n : Order) → n.instrument ≡ Spread i j → (quote : Option Choice) →
      MatchOption quote
      ((a b : Order) (price : ℤ) → Rests xs (Outright i) (other_side n.side) a → Rests xs (Outright j) n.side b
      → price_of on n (Implied a b) ≡ Some price → ⊥)
      (AreFrontsOf on n xs (Outright i) (other_side n.side) (Outright j) n.side) →
      MatchOption quote ((a b : Order) (price : ℤ) → IsImplied on n xs a b price → ⊥) (IsLeastImplied on n xs)
  spread_quote_at xs i j n is None none = λ a b price p.
      let r = pair_rests n xs i j a b price is p in
      none a b price r.first r.second p.meet
  spread_quote_at xs i j n is (Some quote) f =
      least_of_fronts n xs (Outright i) (other_side n.side) (Outright j) n.side quote f
      (λ x y price p covers.
      let r = pair_rests n xs i j x y price is p in
      covers x y price r.first r.second (eligible n xs x y price p))

  pub spread_quote : (xs : List Order) (i j : ℕ) (side : Side) (quote : Option Choice)
      → IsQuoteOfFronts on xs (Spread i j) side (Outright i) (other_side side) (Outright j) side quote
      → IsQuote on xs (Spread i j) side quote
  spread_quote xs i j side quote f n is at =
      spread_quote_at xs i j n is quote
      (subst (λ (s : Side). MatchOption quote ((a b : Order) (price : ℤ) → Rests xs (Outright i) (other_side s) a
      → Rests xs (Outright j) s b → price_of on n (Implied a b) ≡ Some price → ⊥)
      (AreFrontsOf on n xs (Outright i) (other_side s) (Outright j) s)) (sym at) (f n is at))

  -- a spread whose pair takes no part
  pub quote_off : (xs : List Order) (i j : ℕ) (side : Side) → on i j ≡ false → IsQuote on xs (Spread i j) side None
  quote_off xs i j side off n is at a b price p =
      let part : takes_part on n.instrument a.instrument ≡ true = part_of on n a b price p.meet in
      let here : on i j ≡ true = ap (λ (k : Instrument). takes_part on k a.instrument) (sym is) ∙ part in
      (let no : true ≡ false = sym here ∙ off in cc)
