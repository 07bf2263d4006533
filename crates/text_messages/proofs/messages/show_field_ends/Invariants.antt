use Rattle.std.proofs.Common.{◌≡◌, ◌++◌, map, take, drop}
use Rattle.text_messages.specs.code.Messages.{shown_byte}
use Rattle.text_messages.proofs.messages.show_field_ends.Given as goal

abbrev pub invariant-loop-byte : goal.invariant-loop-byte
invariant-loop-byte l = l.text ≡ map shown_byte (take l.byte-index l.fn.text) ++ drop l.byte-index l.fn.text
