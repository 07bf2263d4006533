use Rattle.std.proofs.Common.{◌≡◌, ◌≤◌, ◌++◌, take, vec_capacity, false}
use Rattle.spread_rules_rulebook.specs.Rulebook.{names_of}
use Rattle.text_messages.specs.code.Blocks.{IsPut}
use Rattle.text_day.specs.code.LineParts.{totals_lines_from}
use Rattle.text_day.proofs.months.put_all.Given as goal

abbrev pub invariant-loop-month : goal.invariant-loop-month
invariant-loop-month g l =
    IsPut (g.K.TakesBlocks.written l.initial.sink) (g.K.TakesBlocks.written l.sink) l.block.items
    (l.initial.block.items ++ totals_lines_from 0 (take l.month (names_of l.rulebook)) l.totals)
    × (g.K.TakesBlocks.has_failed l.sink ≡ false) × (256 ≤ vec_capacity l.block)
