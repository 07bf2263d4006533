-- Parts of a fill's line, each of which one function writes.
-- Words of the code alone.
use Rattle.std.specs.Prelude.{ℕ, List, [], ◌∷◌, ◌++◌, codes, decimal}
use Rattle.std.specs.Fmt.{signed_decimal}
use Rattle.spread_rules_ids.specs.declared.bytes.TheConstants.{SPACE}
use Rattle.spread_journal_lines.specs.JournalText.{side_byte}
use Rattle.spread_rules.specs.declared.fill.Fill.{Fill}

-- `F`, the entry's place, the order's place and its session
abbrev pub places_text : Fill → List ℕ
places_text f =
    codes "F " ++ decimal f.at ++ SPACE ∷ decimal f.order ++ SPACE ∷ decimal f.session ++ SPACE ∷ []

-- side, quantity and price
abbrev pub trade_text : Fill → List ℕ
trade_text f = SPACE ∷ side_byte f.side ∷ SPACE ∷ decimal f.quantity
    ++ SPACE ∷ signed_decimal f.price
