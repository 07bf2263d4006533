use Rattle.std.proofs.Common.{◌≡◌, ◌≤◌, min, ◌++◌, map, take, vec_capacity, false}
use Rattle.text_messages.specs.code.Messages.{shown_byte, outgoing_lines_from}
use Rattle.text_messages.specs.code.Blocks.{IsPut}
use Rattle.text_messages.specs.declared.blocks.TheConstants.{BLOCK_BYTES}
use Rattle.text_messages.proofs.messages.put_sessions.Given as goal

abbrev pub invariant-loop-session : goal.invariant-loop-session
invariant-loop-session g l =
    IsPut (g.K.TakesBlocks.written l.initial.sink) (g.K.TakesBlocks.written l.sink) (map shown_byte l.block.items)
    (map shown_byte l.initial.block.items ++ outgoing_lines_from 0 (take l.session (map (λ v. v.items) l.lists)))
    × (g.K.TakesBlocks.has_failed l.sink ≡ false) × (min BLOCK_BYTES (vec_capacity l.initial.block) ≤ vec_capacity
    l.block)
