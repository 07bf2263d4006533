-- the instrument that a symbol names is one of the rulebook's
use Rattle.std.proofs.Common.{◌≡◌, ℕ, List, Some}
use Rattle.std.specs.Str.{bytes_eq}
use Rattle.spread_rules_rulebook.specs.declared.instrument.Instrument.{Instrument}
use Rattle.spread_rules_rulebook.specs.declared.instrument.Instrument.TheVariants.{Outright, Spread}
use Rattle.spread_rules_rulebook.specs.Rulebook.{Rules, month_count, instruments_of, IsListed, symbol_of, find_symbol}
use Rattle.spread_rules_rulebook.proofs.rulebook_texts.SymbolsNameOne.{from_instruments}
use Rattle.spread_books_search.specs.Listed.{IsInMonths, IsNearBeforeFar}
use Rattle.spread_match_orders.proofs.entries.FoundStands.{find_stands}

pub listed_found : (rules : Rules) (symbol : List ℕ) (i : Instrument) → find_symbol rules symbol ≡ Some i
    → IsListed rules i
listed_found rules symbol i e = from_instruments rules i
    (find_stands (λ (x : Instrument). bytes_eq (symbol_of rules x) symbol) (instruments_of rules) i e)

pub near_of : (rules : Rules) (i : Instrument) → IsListed rules i → IsNearBeforeFar i
near_of rules (Outright m) l = tt
near_of rules (Spread k m) l = l.0

pub months_of : (rules : Rules) (i : Instrument) → IsListed rules i → IsInMonths (month_count rules) i
months_of rules (Outright m) l = l
months_of rules (Spread k m) l = l.1
