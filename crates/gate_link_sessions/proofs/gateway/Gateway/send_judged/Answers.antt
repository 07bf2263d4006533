use Rattle.std.proofs.Common.{◌≡◌, ◌≢◌, ◌∙◌, false, ap, refl, arith}
use Rattle.std.proofs.lemmas.List.{length-take-le}
use Rattle.rtrb.specs.Ring.{sent}
use Rattle.fix_wire_frames.specs.Frames.{frames}
use Rattle.fix_session_judging.specs.Steps.{is_closed}
use Rattle.gate_link_sessions.specs.Rows.{entry_events}
use Rattle.gate_link_sessions.specs.Bursts.{first_messages, first_events}
use Rattle.gate_link_sessions.proofs.gateways.SeveralSteps.{owed_many, owed_silent, closed_later, open_where_judged}
use Rattle.gate_link_sessions.proofs.gateways.PassedTogether.{passed_many, events_size, no_events_said, sent_more, sent_same}
use Rattle.gate_link_sessions.proofs.gateway.Gateway.send_judged.Goals as goal
use Rattle.gate_link_sessions.proofs.gateway.Gateway.send_judged.Goals.{Start}

opens : (g : _) (c : Start g) → is_closed c.args.self.now.reader.session ≡ false
opens g c =
    let a = c.args.self.now in
    open_where_judged c.args.frames a.reader.session (frames a.reader.held)
    (omega (arith, c.requires.some, c.requires.judged.judged.messages))

some : (g : _) (c : Start g) → c.args.ahead.now.messages ≢ 0
some g c none = omega (arith, c.requires.some, none)

-- the messages have no event
pub invariant_of-self : goal.invariant_of-self
invariant_of-self g c =
    let a = c.args.self.now in
    let j = c.requires.judged.judged in
    let r = c.args.ahead.now in
    let before = entry_events (sent a.producer) in
    let none = no_events_said a.session r.events a.slice (first_events c.args.frames a) j.events c.requires.judged.fits
    c.if-ahead-eq0.true in
    record {
      close_sent =
          closed_later a.reader.session c.pass_ahead.new.self.session (first_messages c.args.frames a) before before
          (opens g (goal.at.invariant_of-self g c).Start) a.close_sent
          (ap (λ s. s.session) c.pass_ahead.ensures ∙ j.session)
          (sent_same before (first_events c.args.frames a) none);
    }

pub returns-then-ahead-eq0-clause-step : goal.returns-then-ahead-eq0-clause-step
returns-then-ahead-eq0-clause-step g c =
    let a = c.args.self.now in
    let j = c.requires.judged.judged in
    let r = c.args.ahead.now in
    let from = (goal.at.returns-then-ahead-eq0-clause-step g c).Start in
    let none = no_events_said a.session r.events a.slice (first_events c.args.frames a) j.events c.requires.judged.fits
    c.if-ahead-eq0.true in
    let passes = passed_many a _ a.session c.args.frames a.slice r j c.pass_ahead.ensures (some g from) in
    record {
      open_before = opens g from;
      passes = passes;
      none = none;
      sent = refl;
      room = refl;
      pending = owed_silent a.reader.session c.pass_ahead.new.self.session (first_messages c.args.frames a)
          a.reader.held c.pass_ahead.new.self.held passes.left passes.state none;
    }

-- their events were pushed
pub invariant_of-self-2 : goal.invariant_of-self-2
invariant_of-self-2 g c =
    let a = c.args.self.now in
    let j = c.requires.judged.judged in
    let r = c.args.ahead.now in
    let more = sent_more a.session r.events (sent a.producer) _ a.slice (first_events c.args.frames a)
    c.in-Ok.ensures.ok.0 j.events in
    record {
      close_sent =
          closed_later a.reader.session c.pass_ahead-2.new.self.session (first_messages c.args.frames a)
          (entry_events (sent a.producer)) _
          (opens g (goal.at.invariant_of-self-2 g c).Start) a.close_sent
          (ap (λ s. s.session) c.pass_ahead-2.ensures ∙ j.session) more;
    }

pub returns-clause-step : goal.returns-clause-step
returns-clause-step g c =
    let a = c.args.self.now in
    let j = c.requires.judged.judged in
    let r = c.args.ahead.now in
    let from = (goal.at.returns-clause-step g c).Start in
    let passes = passed_many a _ a.session c.args.frames a.slice r j c.pass_ahead-2.ensures (some g from) in
    record {
      open_before = opens g from;
      passes = passes;
      some = grind (arith, c.if-ahead-eq0.false);
      count = events_size a.session r.events a.slice (first_events c.args.frames a) j.events c.requires.judged.fits;
      sent = sent_more a.session r.events (sent a.producer) _ a.slice (first_events c.args.frames a)
          c.in-Ok.ensures.ok.0 j.events;
      room = omega (arith, c.in-Ok.ensures.ok.1, length-take-le r.events a.slice c.requires.judged.fits);
      pending = owed_many a.reader.session c.pass_ahead-2.new.self.session (first_messages c.args.frames a)
          a.reader.held c.pass_ahead-2.new.self.held passes.left passes.state;
    }

-- there was no room for them
pub returns-in_default-clause-step : goal.returns-in_default-clause-step
returns-in_default-clause-step g c =
    let a = c.args.self.now in
    let r = c.args.ahead.now in
    let full = c.in_default.ensures.full in
    let fits = c.requires.judged.fits in
    let count = events_size a.session r.events a.slice (first_events c.args.frames a) c.requires.judged.judged.events
    fits in
    record {
      open_before = opens g (goal.at.returns-in_default-clause-step g c).Start;
      full = omega (arith, full.2, length-take-le r.events a.slice fits, count);
      sent = ap entry_events full.0.1;
      state = refl;
      held = refl;
      pending = λ more. refl;
    }
