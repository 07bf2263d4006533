use Rattle.std.proofs.Common.{◌≡◌, ◌≤◌, ◌++◌, take, vec_capacity, false}
use Rattle.std.specs.Prelude.{fold}
use Rattle.text_fills.specs.code.Sums.{with_fill, empty_months}
use Rattle.text_fills.specs.code.Fills.{fill_lines}
use Rattle.text_messages.specs.code.Blocks.{IsPut}
use Rattle.text_fills.proofs.fills.put_all.Given as goal

abbrev pub invariant-loop-fill : goal.invariant-loop-fill
invariant-loop-fill g l =
    IsPut (g.K.TakesBlocks.written l.initial.sink) (g.K.TakesBlocks.written l.sink) l.block.items
    (l.initial.block.items ++ fill_lines l.rulebook (take l.fill-index l.fills))
    × (g.K.TakesBlocks.has_failed l.sink ≡ false) × (256 ≤ vec_capacity l.block)
    × (l.totals ≡ fold with_fill empty_months (take l.fill-index l.fills))
