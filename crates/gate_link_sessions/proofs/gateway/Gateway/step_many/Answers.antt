use Rattle.std.proofs.Common.{◌≡◌, ◌∙◌, false, length, sym, ap, arith}
use Rattle.fix_wire_frames.specs.Frames.{frames}
use Rattle.fix_wire_frames.specs.Held.{first_frame}
use Rattle.fix_session_judging.specs.Steps.{is_closed}
use Rattle.fix_session_judging.specs.Ahead.{next_messages}
use Rattle.fix_session_judging.specs.Reading.{after_skipping}
use Rattle.fix_session.proofs.readers.BytesFed.{drained_where_none}
use Rattle.gate_link_sessions.proofs.gateways.OneStep.{looked}
use Rattle.gate_link_sessions.proofs.gateways.SeveralSteps.{none_first}
use Rattle.gate_link_sessions.proofs.gateways.SameGate.{same_gate}
use Rattle.gate_link_sessions.proofs.gateway.Gateway.step_many.Goals as goal

pub returns-then-is_closed-clause-step : goal.returns-then-is_closed-clause-step
returns-then-is_closed-clause-step g c = record {
  closed_before = sym c.is_closed.ensures ∙ c.if-is_closed.true;
  same = same_gate c.args.self.now _;
}

-- no message stands
pub returns-then-ahead-eq0-clause-step : goal.returns-then-ahead-eq0-clause-step
returns-then-ahead-eq0-clause-step g c =
    let a = c.args.self.now in
    let mid = c.judge_many-ahead.new.self in
    let judged = c.judge_many-ahead.ensures in
    let same : mid.reader ≡ a.reader = λ i. record { held = judged.held i; session = judged.state i } in
    let opens : is_closed a.reader.session ≡ false = sym c.is_closed.ensures ∙ c.if-is_closed.false in
    let count : length (next_messages c.args.frames a.reader) ≡ 0 =
    ap (λ r. length (next_messages c.args.frames r)) (sym same)
    ∙ (sym judged.judged.judged.messages ∙ c.if-ahead-eq0.true) in
    let none = none_first c.args.frames a.reader.session (frames a.reader.held) opens (omega (arith, c.requires.0))
    count in
    let skipped = c.look.ensures.skipped ∙ ap after_skipping same in
    record {
      open_before = opens;
      none = none;
      skipped = looked a _ skipped judged.sent;
      room = judged.room;
      drained = drained_where_none a.reader c.look.new.self skipped (ap first_frame none);
    }
