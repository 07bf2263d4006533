use Rattle.std.proofs.Common.{◌≡◌, ◌≤◌, ◌+◌, drop, vec_len, vec_capacity}
use Rattle.std.specs.Vec.Iter.{into_iter_items, into_iter_len}
use Rattle.live_writers.specs.code.Writing.{AreWriting}
use Rattle.live_writers.proofs.writing.start_writers.Given as goal

abbrev pub invariant-loop-writer : goal.invariant-loop-writer
invariant-loop-writer g l =
    let done = vec_len l.handles in let rest = l.writer-iterator in record {
      count : done + into_iter_len rest ≡ vec_len l.fn.writers;
      left : into_iter_items rest ≡ drop done l.fn.writers.items;
      room : vec_len l.fn.writers ≤ vec_capacity l.handles;
      started : AreWriting l.fn.writers.items l.handles.items;
    }
