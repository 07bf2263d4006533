use Rattle.std.proofs.Common.{◌≡◌, ◌≤◌, min, ℕ, List, ◌++◌, length, map, vec_capacity, false}
use Rattle.text_messages.specs.code.Messages.{shown_byte}
use Rattle.text_messages.specs.code.Blocks.{IsPut}
use Rattle.text_messages.specs.declared.blocks.TheConstants.{BLOCK_BYTES}
use Rattle.text_messages.proofs.messages.put_part.Given as goal

-- what was put and the rest are all bytes
abbrev pub invariant-loop-rest : goal.invariant-loop-rest
invariant-loop-rest g l =
    ((done : List ℕ) × IsPut (g.K.TakesBlocks.written l.initial.sink) (g.K.TakesBlocks.written l.sink)
    (map shown_byte l.block.items) (map shown_byte l.initial.block.items ++ map shown_byte done)
    × (l.bytes ≡ done ++ l.rest))
    × (g.K.TakesBlocks.has_failed l.sink ≡ false) × (min BLOCK_BYTES (vec_capacity l.initial.block) ≤ vec_capacity
    l.block)

abbrev pub decreases-loop-rest : goal.decreases-loop-rest
decreases-loop-rest g l = length l.rest
