-- Words of the code alone, beside `Candidates`: no promise of a whole day needs them to be read.
use Rattle.std.specs.Prelude.{◌≡◌, ◌==◌, ℤ, ◌+ℤ◌, ◌-ℤ◌, Bool, true, not, ◌&&◌, cond, if◌then◌else◌, List, [], ◌∷◌, ◌++◌, map, Option, Some, None, fold}
use Rattle.std.specs.List.{flat_map}
use Rattle.spread_rules_rulebook.specs.Prices.{IsOrderPrice, IsLegPrice}
use Rattle.spread_rules.specs.Legs.{is_side}
use Rattle.spread_rules.specs.declared.order.Side.{Side}
use Rattle.spread_rules_rulebook.specs.declared.instrument.Instrument.{Instrument}
use Rattle.spread_rules_rulebook.specs.declared.instrument.Instrument.TheVariants.{Outright, Spread}
use Rattle.spread_rules.specs.declared.order.Order.{Order}
use Rattle.spread_rules.specs.declared.candidate.Counterparty.{Counterparty}
use Rattle.spread_rules.specs.declared.candidate.Counterparty.TheVariants.{Direct, Implied}
use Rattle.spread_rules.specs.declared.candidate.Candidate.{Candidate}
use Rattle.spread_rules.specs.Candidates.{Pairs, is_before, is_within_limit, price_of, price_of_three}

abbrev pub are_opposite : Side → Side → Bool
are_opposite a b = not (is_side a b)

abbrev pub all_on : Pairs
all_on i j = true

-- the price of three where implied trading is on for all pairs of months
abbrev pub implied_price :
    Side → Instrument → Side → Instrument → Side → Instrument → ℤ → ℤ → Option ℤ
implied_price = price_of_three all_on

-- whether the months of the spread among an order and the first of two that meet it take part in implied trading
abbrev pub takes_part : Pairs → Instrument → Instrument → Bool
takes_part on (Spread i j) first = on i j
takes_part on (Outright m) (Spread i j) = on i j
takes_part on (Outright m) (Outright k) = true

-- the candidate at that price, where there is one and the new order's limit allows it
abbrev pub candidate_at : Order → Counterparty → Option ℤ → Option Candidate
candidate_at n p None = None
candidate_at n p (Some price) =
    if is_within_limit n.side n.price price
    then Some (record { price = price; counterparty = p }) else None

-- an eligible candidate, where the counterparty is one
abbrev pub candidate_of : Pairs → Order → Counterparty → Option Candidate
candidate_of on n p = candidate_at n p (price_of on n p)

-- the one of two that comes first, the earlier one at a tie
abbrev pub better_by : {O : Type 0} → (O → O → Bool) → Option O → Option O → Option O
better_by before None q = q
better_by before (Some p) None = Some p
better_by before (Some p) (Some q) = cond (before q p) (Some q) (Some p)

-- all singles and all pairs
abbrev pub counterparties : List Order → List Counterparty
counterparties xs = map Direct xs ++ flat_map (λ a. map (Implied a) xs) xs

-- the one that ranks first of the eligible candidates among these: `best_candidate`, where these are all singles and pairs
abbrev pub least_candidate : Pairs → Order → List Counterparty → Option Candidate
least_candidate on n ps =
    fold (λ best p. better_by (is_before n) best (candidate_of on n p)) None ps

-- prices of orders
abbrev pub HasOrderPrice : Order → Type 0
HasOrderPrice o = IsOrderPrice o.price

abbrev pub HaveOrderPrices : Counterparty → Type 0
HaveOrderPrices (Direct o) = HasOrderPrice o
HaveOrderPrices (Implied a b) = HasOrderPrice a × HasOrderPrice b

abbrev pub HasLegPrice : Candidate → Type 0
HasLegPrice o = IsLegPrice o.price
