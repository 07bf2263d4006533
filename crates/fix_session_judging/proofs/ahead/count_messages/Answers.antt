use Rattle.std.proofs.Common.{drop, sym, arith}
use Rattle.fix_wire_framer.specs.FramePlaces.{frame_of}
use Rattle.fix_session_judging.proofs.JudgedAhead.{one_less}
use Rattle.fix_session_judging.proofs.ahead.count_messages.Goals as goal

pub loop-count-preserved : goal.loop-count-preserved
loop-count-preserved c =
    let held = c.args.framer.now in
    let ends = c.in-Some.ensures.after in
    let less = one_less (drop c.loop-count.place held) (frame_of held c.in-Some.found) (drop c.in-Some.found.end held)
    (sym c.in-Some.ensures.first) ends.2 in
    (ends.1, omega (arith, less, c.loop-count.invariant.1))
