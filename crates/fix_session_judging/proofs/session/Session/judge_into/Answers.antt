use Rattle.std.proofs.Common.{sym, ◌∙◌, subst}
use Rattle.spread_rules.specs.Journal.{IsNumber}
use Rattle.fix_wire_frames.specs.Messages.{get}
use Rattle.fix_session_judging.proofs.events.InRangeAndOrder.{May, number_holds}
use Rattle.fix_session_judging.proofs.events.OpensAtTwo.{judge_opens}
use Rattle.fix_session_judging.proofs.session.Session.judge_into.Goals as goal

pub returns-in-Some-logon_of : goal.returns-in-Some-logon_of
returns-in-Some-logon_of c =
    c.opened.ensures c.args.self.now ∙ sym (judge_opens c.args.self.now c.args.message.now.frame.now c.in-Some.number
    c.in-Some-logon_of.logon c.in-Before.is (sym c.number.ensures ∙ c.in-Some.is)
    (sym c.logon_of.ensures ∙ c.in-Some-logon_of.is))

pub judge_running-requires : goal.judge_running-requires
judge_running-requires c =
    let held = number_holds (get 34 c.args.message.now.frame.now) in
    (subst (May IsNumber) (sym c.number.ensures ∙ c.in-Some.is) held).1
