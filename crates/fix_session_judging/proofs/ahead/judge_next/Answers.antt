use Rattle.std.proofs.Common.{Some, ap, ◌∙◌, refl, arith}
use Rattle.fix_session_judging.proofs.JudgedAhead.{judges_one, event_set, event_none}
use Rattle.fix_session_judging.proofs.ahead.judge_next.Goals as goal

pub returns-in-Event-clause-judged : goal.returns-in-Event-clause-judged
returns-in-Event-clause-judged c =
    let a = c.args.ahead.now in
    let v = c.judge_into-change.new.verdict in
    judges_one c.args.number c.args.framer.now c.args.entries.now _ a _ c.message-message.result.frame.now v
    (ap Some c.message-message.ensures ∙ c.in-Some.ensures.first) c.in-Some.ensures.after refl
    (ap (λ t. (v, t)) c.change.ensures ∙ c.judge_into-change.ensures) (omega arith)
    (event_set c.args.number c.args.entries.now a.events c.in-Event.event v c.requires.room c.in-Event.is)

pub returns-in-Nothing-clause-judged : goal.returns-in-Nothing-clause-judged
returns-in-Nothing-clause-judged c =
    let a = c.args.ahead.now in
    let v = c.judge_into-change.new.verdict in
    judges_one c.args.number c.args.framer.now c.args.entries.now _ a _ c.message-message.result.frame.now v
    (ap Some c.message-message.ensures ∙ c.in-Some.ensures.first) c.in-Some.ensures.after refl
    (ap (λ t. (v, t)) c.change.ensures ∙ c.judge_into-change.ensures) (omega arith)
    (event_none c.args.number c.args.entries.now a.events v c.in-Nothing.is)
