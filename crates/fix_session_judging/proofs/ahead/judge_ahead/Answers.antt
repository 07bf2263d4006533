use Rattle.std.proofs.Common.{◌≡◌, ◌∙◌, sym, subst, arith}
use Rattle.fix_session_judging.specs.code.Judged.{HasJudgedFirst}
use Rattle.fix_session_judging.proofs.JudgedAhead.{judged_more, ahead_full, ahead_closed, ahead_none}
use Rattle.fix_session_judging.proofs.ahead.judge_ahead.Goals as goal

pub returns-then-is_closed-clause-ahead : goal.returns-then-is_closed-clause-ahead
returns-then-is_closed-clause-ahead c =
    ahead_closed c.args.number c.args.most c.loop.counter c.args.session c.args.framer.now c.loop.entries c.loop.ahead
    c.loop.invariant.judged (omega arith) (sym c.is_closed.ensures ∙ c.if-is_closed.true)

pub returns-then-not-judge_next-clause-ahead : goal.returns-then-not-judge_next-clause-ahead
returns-then-not-judge_next-clause-ahead c =
    let none = c.if-not-judge_next.ensures.judged in
    rw (none.1, none.2)
    (ahead_none c.args.number c.args.most c.loop.counter c.args.session c.args.framer.now c.loop.entries c.loop.ahead
    c.loop.invariant.judged (omega arith) none.0)

pub loop-preserved : goal.loop-preserved
loop-preserved c =
    let was = c.loop.invariant in record {
      judged =
          judged_more c.args.number c.loop.counter c.args.session c.args.framer.now c.loop.entries
          c.judge_next.new.entries c.loop.ahead c.judge_next.new.ahead was.judged
          (sym c.is_closed.ensures ∙ c.if-is_closed.false) c.if-not-judge_next.ensures.judged;
      size = c.judge_next.ensures.size ∙ was.size;
    }

pub returns-clause-ahead : goal.returns-clause-ahead
returns-clause-ahead c =
    let all : c.loop.counter ≡ c.args.most = omega arith in
    ahead_full c.args.number c.args.most c.args.session c.args.framer.now c.loop.entries c.loop.ahead
    (subst (λ n. HasJudgedFirst c.args.number n c.args.session c.args.framer.now c.loop.entries c.loop.ahead) all
    c.loop.invariant.judged)
