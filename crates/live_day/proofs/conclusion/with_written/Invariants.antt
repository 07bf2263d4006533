use Rattle.std.proofs.Common.{◌≡◌, ◌≤◌, ◌<◌, ◌+◌, ℕ, drop, vec_len}
use Rattle.std.specs.Vec.Iter.{into_iter_items, into_iter_len}
use Rattle.spread_report_outbound.specs.Sessions.{bytes_of}
use Rattle.live_writers.specs.code.Writing.{written_at}
use Rattle.live_day.proofs.conclusion.with_written.Given as goal

abbrev pub invariant-loop-one : goal.invariant-loop-one
invariant-loop-one g l =
    let rest = l.one-iterator in record {
      count : l.s + into_iter_len rest ≡ vec_len l.fn.written;
      left : into_iter_items rest ≡ drop l.s l.fn.written.items;
      size : vec_len l.out ≡ vec_len l.initial.out;
      done : (s : ℕ) → s < l.s → bytes_of l.out.items s ≡ written_at l.fn.written.items s;
      others : (s : ℕ) → l.s ≤ s → bytes_of l.out.items s ≡ bytes_of l.initial.out.items s;
    }
