-- The search for the next candidate, as a fold over all counterparties.
-- Words of the code alone.
use Rattle.std.specs.Prelude.{◌==◌, Bool, true, false, ◌&&◌, ◌||◌, cond, List, Option, Some, None, fold}
use Rattle.spread_rules.specs.code.Cases.{better_of}
use Rattle.spread_rules.specs.Legs.{is_side}
use Rattle.spread_rules.specs.declared.order.Side.{Side}
use Rattle.spread_rules_rulebook.specs.declared.instrument.Instrument.{Instrument}
use Rattle.spread_rules_rulebook.specs.declared.instrument.Instrument.TheVariants.{Outright, Spread}
use Rattle.spread_rules.specs.declared.order.Order.{Order}
use Rattle.spread_rules.specs.declared.candidate.Candidate.{Candidate}
use Rattle.spread_rules.specs.declared.candidate.Counterparty.{Counterparty}
use Rattle.spread_rules.specs.declared.candidate.Counterparty.TheVariants.{Direct, Implied}
use Rattle.spread_rules.specs.Candidates.{Pairs}
use Rattle.spread_rules.specs.code.Candidates.{candidate_of, takes_part, are_opposite}
use Rattle.explain_turns.specs.Explained.{is_behind}

-- whether a counterparty takes part: a pair of orders does where the pair of months does
abbrev pub may_trade : Pairs → Order → Counterparty → Bool
may_trade on n (Direct o) = true
may_trade on n (Implied a b) = takes_part on n.instrument a.instrument

-- the candidate, where it ranks behind the bound
abbrev pub only_behind : Order → Option Candidate → Option Candidate → Option Candidate
only_behind n bound None = None
only_behind n bound (Some o) = cond (is_behind n bound o) (Some o) None

-- the eligible candidate that a counterparty makes, where it ranks behind the bound
abbrev pub next_of : Pairs → Order → Option Candidate → Counterparty → Option Candidate
next_of on n bound p = only_behind n bound (candidate_of on n p)

abbrev pub next_step :
    Pairs → Order → Option Candidate → Option Candidate → Counterparty → Option Candidate
next_step on n bound best p = better_of n best (next_of on n bound p)

-- the least of these that rank behind the bound
abbrev pub next_candidate_of :
    Pairs → Order → Option Candidate → List Counterparty → Option Candidate
next_candidate_of on n bound ps = fold (next_step on n bound) None ps

-- an order of this side and instrument may be the first of two that meet an order
abbrev pub may_be_first : Side → Instrument → Side → Instrument → Bool
may_be_first side (Outright m) first (Spread i j) =
    (m == i && are_opposite side first) || (m == j && is_side side first)
may_be_first side (Spread i j) first (Outright m) = m == i && are_opposite side first
may_be_first side _ first _ = false
