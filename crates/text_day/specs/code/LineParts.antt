-- Parts of lines, each of which one function writes.
-- Words of the code alone.
use Rattle.std.specs.Prelude.{ℕ, List, [], ◌∷◌, ◌++◌, codes, decimal, get_or}
use Rattle.std.specs.List.{flat_map, enumerate_from}
use Rattle.std.specs.Fmt.{signed_decimal}
use Rattle.spread_rules_ids.specs.declared.bytes.TheConstants.{LINE_FEED, SPACE}
use Rattle.spread_rules_rulebook.specs.Rulebook.{Rules, names_of}
use Rattle.text_fills.specs.declared.totals.MonthTotals.{MonthTotals}
use Rattle.text_fills.specs.code.Sums.{empty_month}

-- bought and sold
abbrev pub lots_text : MonthTotals → List ℕ
lots_text t = SPACE ∷ decimal t.bought ++ SPACE ∷ decimal t.sold

-- paid and received
abbrev pub money_text : MonthTotals → List ℕ
money_text t = SPACE ∷ signed_decimal t.paid ++ SPACE ∷ signed_decimal t.received

-- the line of a month with this name and these totals
abbrev pub totals_line : List ℕ → MonthTotals → List ℕ
totals_line name t = codes "M " ++ name ++ lots_text t ++ money_text t ++ LINE_FEED ∷ []

-- the lines of these months, of which the first has this number, by the sums of all months
abbrev pub totals_lines_from : ℕ → List (List ℕ) → List MonthTotals → List ℕ
totals_lines_from month names totals =
    flat_map (λ m. totals_line m.1 (get_or totals m.0 empty_month)) (enumerate_from month names)

-- the line of each month of the rulebook
abbrev pub totals_lines : Rules → List MonthTotals → List ℕ
totals_lines rules totals = totals_lines_from 0 (names_of rules) totals
