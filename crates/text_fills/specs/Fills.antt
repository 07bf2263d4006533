-- The lines of fills: the place of the entry, the order, its session, and the trade.
use Rattle.std.specs.Prelude.{ℕ, ℤ, List, [], ◌∷◌, ◌++◌, codes, decimal}
use Rattle.std.specs.Fmt.{signed_decimal}
use Rattle.spread_rules_rulebook.specs.declared.instrument.Instrument.{Instrument}
use Rattle.spread_rules_rulebook.specs.declared.instrument.Instrument.TheVariants.{Outright, Spread}
use Rattle.spread_rules.specs.declared.fill.Fill.{Fill}
use Rattle.spread_rules_rulebook.specs.Rulebook.{Rules, symbol_of}
use Rattle.spread_rules_ids.specs.declared.bytes.TheConstants.{LINE_FEED, SPACE}
use Rattle.spread_journal_lines.specs.JournalText.{side_byte}

-- the near and the far price of a spread's fill
abbrev pub legs_text : Instrument → ℤ → ℤ → List ℕ
legs_text (Outright m) near far = []
legs_text (Spread i j) near far = SPACE ∷ signed_decimal near ++ SPACE ∷ signed_decimal far

-- `F AT ORDER SESSION SYMBOL SIDE QUANTITY PRICE`, and for a spread ` NEAR FAR`
abbrev pub fill_line : Rules → Fill → List ℕ
fill_line rules f =
    (codes "F " ++ decimal f.at
    ++ SPACE ∷ decimal f.order ++ SPACE ∷ decimal f.session ++ SPACE ∷ [])
    ++ symbol_of rules f.instrument
    ++ (SPACE ∷ side_byte f.side ∷ SPACE ∷ decimal f.quantity ++ SPACE ∷ signed_decimal f.price)
    ++ legs_text f.instrument f.near f.far
    ++ LINE_FEED ∷ []
