-- Words of the code alone, beside `Fills`: no promise of a whole day needs them to be read.
use Rattle.std.specs.Prelude.{ℕ, List, [], ◌∷◌, ◌++◌}
use Rattle.std.specs.List.{flat_map}
use Rattle.spread_rules.specs.declared.fill.Fill.{Fill}
use Rattle.spread_rules_rulebook.specs.Rulebook.{Rules}
use Rattle.text_fills.specs.Fills.{fill_line}

-- a line for each fill, in order
abbrev pub fill_lines : Rules → List Fill → List ℕ
fill_lines rules fills = flat_map (fill_line rules) fills
