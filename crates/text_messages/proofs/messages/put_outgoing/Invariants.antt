use Rattle.std.proofs.Common.{◌≡◌, ◌≤◌, min, ℕ, List, ◌++◌, length, map, vec_capacity, false}
use Rattle.fix_wire_frames.specs.Frames.{IsFrameRow}
use Rattle.text_messages.specs.code.Messages.{shown_byte, session_lines}
use Rattle.text_messages.specs.code.Blocks.{IsPut}
use Rattle.text_messages.specs.declared.blocks.TheConstants.{BLOCK_BYTES}
use Rattle.text_messages.proofs.messages.put_outgoing.Given as goal

-- what was put and the lines of the rest are all lines
abbrev pub invariant-loop-message : goal.invariant-loop-message
invariant-loop-message g l =
    ((done : List ℕ) × IsPut (g.K.TakesBlocks.written l.initial.sink) (g.K.TakesBlocks.written l.sink)
    (map shown_byte l.block.items) (map shown_byte l.initial.block.items ++ done)
    × (session_lines l.session l.bytes ≡ done ++ session_lines l.session l.rest))
    × IsFrameRow l.rest × (g.K.TakesBlocks.has_failed l.sink ≡ false)
    × (min BLOCK_BYTES (vec_capacity l.initial.block) ≤ vec_capacity l.block)

abbrev pub decreases-loop-message : goal.decreases-loop-message
decreases-loop-message g l = length l.rest
