-- Words of the code alone, beside `Months`: no promise of a whole day needs them to be read.
use Rattle.std.specs.Prelude.{ℕ, List, [], ◌∷◌, ◌++◌}
use Rattle.std.specs.List.{flat_map, enumerate_from}
use Rattle.spread_rules.specs.declared.fill.Fill.{Fill}
use Rattle.spread_rules_rulebook.specs.Rulebook.{Rules, names_of}
use Rattle.text_day.specs.Months.{month_line}

-- a line for each month of the rulebook, in order
abbrev pub month_lines : Rules → List Fill → List ℕ
month_lines rules fills =
    flat_map (λ m. month_line m.1 m.0 fills) (enumerate_from 0 (names_of rules))

-- the lines of these months, of which the first has this number
abbrev pub month_lines_from : ℕ → List (List ℕ) → List Fill → List ℕ
month_lines_from month names fills =
    flat_map (λ m. month_line m.1 m.0 fills) (enumerate_from month names)
