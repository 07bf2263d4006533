use Rattle.std.proofs.Common.{List, [], ◌∷◌, ℕ, ap}
use Rattle.spread_report_fields.specs.code.Fields.{text_field}
use Rattle.spread_report.specs.EntryMessages.{close_steps}
use Rattle.spread_report_outbound.specs.code.Addressed.{numbered_message, steps_to}
use Rattle.spread_report_outbound.proofs.MoreMessages.{sends_same}
use Rattle.spread_report.proofs.admin.send_logout.Goals as goal

pub returns-then-reason-eq-MSG_SEQ_NUM_TOO_LOW : goal.returns-then-reason-eq-MSG_SEQ_NUM_TOO_LOW
returns-then-reason-eq-MSG_SEQ_NUM_TOO_LOW g c =
    sends_same c.args.outbox.now c.send-then-reason-eq-MSG_SEQ_NUM_TOO_LOW.new.self _
    (steps_to c.args.session (close_steps c.args.reason))
    c.send-then-reason-eq-MSG_SEQ_NUM_TOO_LOW.result
    (rw c.if-reason-eq-MSG_SEQ_NUM_TOO_LOW.true (ap (λ (t : List ℕ). numbered_message c.args.session 53
    (text_field 58 t ∷ []) ∷ []) c.of.ensures)) c.send-then-reason-eq-MSG_SEQ_NUM_TOO_LOW.ensures.sent

pub returns-then-reason-eq-COMP_ID : goal.returns-then-reason-eq-COMP_ID
returns-then-reason-eq-COMP_ID g c =
    sends_same c.args.outbox.now c.send-then-reason-eq-COMP_ID.new.self _
    (steps_to c.args.session (close_steps c.args.reason))
    c.send-then-reason-eq-COMP_ID.result
    (rw c.if-reason-eq-COMP_ID.true (ap (λ (t : List ℕ). numbered_message c.args.session 53 (text_field 58 t ∷ []) ∷ [])
    c.of-then-reason-eq-COMP_ID.ensures)) c.send-then-reason-eq-COMP_ID.ensures.sent
