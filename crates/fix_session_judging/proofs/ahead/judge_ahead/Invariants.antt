use Rattle.std.proofs.Common.{◌≡◌, length}
use Rattle.fix_session_judging.specs.code.Judged.{HasJudgedFirst}
use Rattle.fix_session_judging.proofs.ahead.judge_ahead.Given as goal

abbrev pub invariant-loop : goal.invariant-loop
invariant-loop l = record {
  judged : HasJudgedFirst l.number l.counter l.fn.session l.framer l.entries l.ahead;
  size : length l.entries ≡ length l.initial.entries;
}
