use Rattle.std.proofs.Common.{◌≡◌, false, None, Some, ◌∙◌, sym, ap, refl, rules}
use Rattle.std.specs.List.{list_any}
use Rattle.rtrb.specs.Ring.{sent}
use Rattle.spread_rules.specs.Journal.{is_close}
use Rattle.fix_wire_frames.specs.Frames.{frames}
use Rattle.fix_wire_framer.proofs.framing.OneTurn.{no_first}
use Rattle.fix_session_judging.specs.Steps.{event_in, is_closed, is_closing}
use Rattle.fix_session_judging.specs.Reading.{first_verdict}
use Rattle.fix_session_judging.proofs.events.ClosesOnce.{closes_with}
use Rattle.fix_session.proofs.readers.FirstMessage.{verdict_some, verdict_none}
use Rattle.fix_session.proofs.readers.BytesFed.{leaves_passed, session_passed, drained_where_none}
use Rattle.gate_link_sessions.specs.Rows.{entry_events, entry}
use Rattle.gate_link_sessions.proofs.gateways.StillOwed.{owed_nothing, owed_event}
use Rattle.gate_link_sessions.proofs.gateways.OneStep.{events_later, looked, message_passed, close_later}
use Rattle.gate_link_sessions.proofs.gateway.Gateway.step.Goals as goal

-- no message stands
pub returns-in_default-clause-step : goal.returns-in_default-clause-step
returns-in_default-clause-step g c =
    let a = c.args.self.now in
    let none : first_verdict a.reader ≡ None = search rules in
    let first = verdict_none a.reader none in record {
      open_before = sym c.is_closed.ensures ∙ c.if-is_closed.false;
      none = no_first (frames a.reader.held) first;
      skipped = looked a _ c.look.ensures.skipped refl;
      room = refl;
      drained = drained_where_none a.reader c.look.new.self c.look.ensures.skipped first;
    }

-- the message has no event
pub returns-in_default-verdict-clause-step : goal.returns-in_default-verdict-clause-step
returns-in_default-verdict-clause-step g c =
    let a = c.args.self.now in
    let mid = c.look.new.self in
    let new = c.pass.new.self in
    let m = verdict_some a.reader c.in-Some.verdict (sym c.in-Some.ensures.says) in
    let says = ap event_in (m.1.1 ∙ c.in_default-verdict.is) in record {
      open_before = sym c.is_closed.ensures ∙ c.if-is_closed.false;
      passes = message_passed a _ mid m.0 None c.look.ensures.skipped m.1.0 c.pass.ensures.passed says;
      sent = refl;
      room = refl;
      pending = owed_nothing a.reader.session new.session m.0 a.reader.held new.held
          (leaves_passed a.reader mid new m.0 c.look.ensures.skipped m.1.0 c.pass.ensures.passed).0
          (session_passed a.reader mid new m.0 c.look.ensures.skipped m.1.0 c.pass.ensures.passed) says;
    }

pub invariant_of-self-in_default-verdict : goal.invariant_of-self-in_default-verdict
invariant_of-self-in_default-verdict g c =
    let a = c.args.self.now in
    let m = verdict_some a.reader c.in-Some.verdict (sym c.in-Some.ensures.says) in
    let opens : is_closed a.reader.session ≡ false = sym c.is_closed.ensures ∙ c.if-is_closed.false in record {
      close_sent =
          ap is_closed (session_passed a.reader c.look.new.self c.pass.new.self m.0 c.look.ensures.skipped m.1.0
          c.pass.ensures.passed)
          ∙ (closes_with a.reader.session m.0 opens
          ∙ (ap is_closing (m.1.1 ∙ c.in_default-verdict.is)
          ∙ (sym opens ∙ a.close_sent)));
    }

-- the message has an event, for which there was no room
pub returns-in_default-push-clause-step : goal.returns-in_default-push-clause-step
returns-in_default-push-clause-step g c =
    let a = c.args.self.now in
    let m = verdict_some a.reader c.in-Some.verdict (sym c.in-Some.ensures.says) in
    let full = c.in_default-push.ensures.full in record {
      open_before = sym c.is_closed.ensures ∙ c.if-is_closed.false;
      message = m.0;
      event = c.in-Event.event;
      stands = m.1.0;
      says_so = ap event_in (m.1.1 ∙ c.in-Event.is);
      skipped = looked a _ c.look.ensures.skipped (ap entry_events full.1);
      full = full.2;
    }

pub invariant_of-self-in_default-push : goal.invariant_of-self-in_default-push
invariant_of-self-in_default-push g c =
    let sent_is = ap (λ es. list_any is_close (entry_events es)) c.in_default-push.ensures.full.1 in
    record {
      close_sent = ap (λ r. is_closed r.session) c.look.ensures.skipped
          ∙ (c.args.self.now.close_sent ∙ sym sent_is);
    }

-- the message has an event, which was pushed
pub returns-clause-step : goal.returns-clause-step
returns-clause-step g c =
    let a = c.args.self.now in
    let e = c.in-Event.event in
    let mid = c.look.new.self in
    let m = verdict_some a.reader c.in-Some.verdict (sym c.in-Some.ensures.says) in
    let says = ap event_in (m.1.1 ∙ c.in-Event.is) in record {
      event = e;
      open_before = sym c.is_closed.ensures ∙ c.if-is_closed.false;
      passes = message_passed a _ mid m.0 (Some e) c.look.ensures.skipped m.1.0 c.pass-2.ensures.passed says;
      sent = ap entry_events c.in-Ok.ensures.ok.0 ∙ events_later (sent a.producer) (entry a.session e);
      room = c.in-Ok.ensures.ok.1;
      pending = owed_event a.reader.session c.pass-2.new.self.session m.0 a.reader.held c.pass-2.new.self.held e
          (leaves_passed a.reader mid c.pass-2.new.self m.0 c.look.ensures.skipped m.1.0 c.pass-2.ensures.passed).0
          (session_passed a.reader mid c.pass-2.new.self m.0 c.look.ensures.skipped m.1.0 c.pass-2.ensures.passed) says;
    }

-- it is closed now exactly where that event is a close
pub invariant_of-self-2 : goal.invariant_of-self-2
invariant_of-self-2 g c =
    let a = c.args.self.now in
    let e = c.in-Event.event in
    let m = verdict_some a.reader c.in-Some.verdict (sym c.in-Some.ensures.says) in
    let opens : is_closed a.reader.session ≡ false = sym c.is_closed.ensures ∙ c.if-is_closed.false in
    let sent_is = ap entry_events c.in-Ok.ensures.ok.0 ∙ events_later (sent a.producer) (entry a.session e) in record {
      close_sent =
          ap is_closed (session_passed a.reader c.look.new.self c.pass-2.new.self m.0 c.look.ensures.skipped m.1.0
          c.pass-2.ensures.passed)
          ∙ (closes_with a.reader.session m.0 opens
          ∙ (ap is_closing (m.1.1 ∙ c.in-Event.is)
          ∙ (sym (close_later (entry_events (sent a.producer)) e (sym a.close_sent ∙ opens))
          ∙ sym (ap (list_any is_close) sent_is))));
    }
