-- Words of the code alone, beside `Clearing`: no promise of a whole day needs them to be read.
use Rattle.std.specs.Prelude.{◌≡◌, ℕ, zero, suc, ◌-◌, ◌==◌, ℤ, ◌-ℤ◌, if◌then◌else◌, List, [], ◌∷◌, ◌++◌, Option, Some, None}
use Rattle.spread_rules.specs.declared.order.Order.{Order}
use Rattle.spread_rules.specs.declared.candidate.Candidate.{Candidate}
use Rattle.spread_rules.specs.Candidates.{Pairs}
use Rattle.spread_rules.specs.code.Candidates.{least_candidate, counterparties}
use Rattle.spread_rules.specs.Clearing.{Trading, after_trade}

-- the resting orders, and the new one behind them
abbrev pub all_orders : Trading → List Order
all_orders s = s.orders ++ s.new ∷ []

-- whom the new order trades with next: the least eligible candidate, while something is left of it
abbrev pub next_candidate : Pairs → Trading → Option Candidate
next_candidate on s =
    if s.new.leaves == 0 then None
    else least_candidate on s.new (counterparties s.orders)

-- what comes of the next match, and nothing where there is none
abbrev pub after_match : List ℤ → Trading → Option Candidate → Trading
after_match references s None = s
after_match references s (Some o) = after_trade references s o

-- One turn, which changes nothing where there is no next: `match_once` in the steps of the code (lemma `once_is` of ClearIsTurns).
abbrev pub turn : Pairs → List ℤ → Trading → Trading
turn on references s = after_match references s (next_candidate on s)

-- so many turns: `iterate (match_once ..)` in the steps of the code
abbrev pub turns : Pairs → List ℤ → ℕ → Trading → Trading
turns on references zero s = s
turns on references (suc k) s =
    turns on references k (turn on references s)

-- a new order against these, before the first turn: what `clear` begins with
abbrev pub begin : Order → List Order → Trading
begin n xs = record { new = n; orders = xs; fills = [] }

-- after some number of turns there is no next
abbrev pub Clears : Pairs → List ℤ → Trading → Trading → Type 0
Clears on references s t =
    (k : ℕ) × (t ≡ turns on references k s) × (next_candidate on t ≡ None)
