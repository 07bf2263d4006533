-- Which messages an entry sends: execution reports, to the sessions of the orders that it speaks of, and
-- to its own session OrderCancelRejects and session messages.
use Rattle.std.specs.Prelude.{ℕ, ◌-◌, ◌==◌, if◌then◌else◌, List, [], ◌∷◌, ◌++◌, codes, Some}
use Rattle.fix_wire_frames.specs.declared.msg_types.TheConstants as msg_types
use Rattle.fix_wire_frames.specs.declared.tags.TheConstants as tags
use Rattle.fix_wire.specs.declared.writer.Value.TheVariants.{Text, Number}
use Rattle.fix_wire.specs.Layout.{field}
use Rattle.spread_rules.specs.declared.codes.close_reason.TheConstants as close_reason
use Rattle.spread_rules.specs.declared.codes.ord_status.TheConstants as status
use Rattle.spread_rules.specs.declared.fill.Fill.{Fill}
use Rattle.spread_rules.specs.declared.event.Event.{Event}
use Rattle.spread_rules.specs.declared.event.Event.TheVariants.{Logon, New, Cancel, Replace, TestReply, Gap, Resend, Reject, Close}
use Rattle.spread_rules.specs.declared.outcome.Outcome.{Outcome}
use Rattle.spread_rules.specs.declared.outcome.Outcome.TheVariants as outcomes
use Rattle.spread_rules_rulebook.specs.Rulebook.{Rules}
use Rattle.spread_report_fields.specs.declared.codes.TheConstants.{ENCRYPT_METHOD_NONE, CXL_REJ_RESPONSE_TO_CANCEL, CXL_REJ_RESPONSE_TO_REPLACE}
use Rattle.spread_report_orders.specs.ExecutionReports.{ExecutionReport, order_report, new_report, amended_report, fills_reports}
use Rattle.spread_report_outbound.specs.Steps.{OutgoingStep, logged_on, numbered, gap_fill}

-- The reports that an entry of that place and session makes, in order. A new order is rejected; or it is accepted, its
-- fills are reported, and what is left of an immediate one is cancelled. A resting order is cancelled, or it is replaced
-- and the fills of the new one are reported.
abbrev pub entry_reports : Rules → ℕ → ℕ → Event → Outcome → List Fill → List ExecutionReport
entry_reports rules place session (New t) (outcomes.Refused reason) fills =
    record (order_report session place t status.REJECTED) { ord_rej_reason = Some reason } ∷ []
entry_reports rules place session (New t) outcomes.Rested fills =
    new_report session place t ∷ fills_reports rules fills
entry_reports rules place session (New t) outcomes.Filled fills =
    new_report session place t ∷ fills_reports rules fills
entry_reports rules place session (New t) (outcomes.Ended left) fills =
    new_report session place t ∷ fills_reports rules fills
    ++ record (order_report session place t status.CANCELED) { cum_qty = t.quantity - left } ∷ []
entry_reports rules place session (Cancel id original) (outcomes.Cancelled o) fills =
    amended_report rules session id original o status.CANCELED ∷ []
entry_reports rules place session (Replace original t) (outcomes.Replaced o) fills =
    record (amended_report rules session t.id original o status.REPLACED) { leaves_qty = o.leaves }
    ∷ fills_reports rules fills
entry_reports rules place session _ _ fills = []

-- ---- what the session of an entry is sent besides

-- An OrderCancelReject that answers such a request. The order that was named has that place and that status; where
-- there is none, the place is 0 and OrderID is `NONE`.
abbrev pub order_cancel_reject : ℕ → List ℕ → List ℕ → ℕ → ℕ → ℕ → OutgoingStep
order_cancel_reject response_to id original reason place ord_status =
    numbered msg_types.ORDER_CANCEL_REJECT
    (field tags.ORDER_ID (if place == 0 then Text (codes "NONE") else Number place)
    ∷ field tags.CL_ORD_ID (Text id)
    ∷ field tags.ORIG_CL_ORD_ID (Text original)
    ∷ field tags.ORD_STATUS (Number ord_status)
    ∷ field tags.CXL_REJ_RESPONSE_TO (Number response_to)
    ∷ field tags.CXL_REJ_REASON (Number reason)
    ∷ [])

-- a Logout, where the session closed by a Logout, by a number too low or by another CompID
abbrev pub close_steps : ℕ → List OutgoingStep
close_steps reason =
    let logout = λ (text : List ℕ). numbered msg_types.LOGOUT (field tags.TEXT (Text text) ∷ []) in
    if reason == close_reason.LOGOUT then numbered msg_types.LOGOUT [] ∷ []
    else if reason == close_reason.MSG_SEQ_NUM_TOO_LOW then logout (codes "MsgSeqNum too low") ∷ []
    else if reason == close_reason.COMP_ID then logout (codes "CompID") ∷ []
    else []

-- What an event brings its session besides execution reports. An EndSeqNo of 0 asks for all that was sent from the
-- first number on.
abbrev pub event_steps : Event → Outcome → List OutgoingStep
event_steps (Logon client host beat) outcome =
    logged_on (record { client = client; host = host })
    ∷ numbered msg_types.LOGON (field tags.ENCRYPT_METHOD (Number ENCRYPT_METHOD_NONE)
    ∷ field tags.HEART_BT_INT (Number beat) ∷ []) ∷ []
event_steps (Cancel id original) (outcomes.CancelRefused reason place ord_status) =
    order_cancel_reject CXL_REJ_RESPONSE_TO_CANCEL id original reason place ord_status ∷ []
event_steps (Replace original t) (outcomes.CancelRefused reason place ord_status) =
    order_cancel_reject CXL_REJ_RESPONSE_TO_REPLACE t.id original reason place ord_status ∷ []
event_steps (TestReply answer) outcome =
    numbered msg_types.HEARTBEAT (field tags.TEST_REQ_ID (Text answer) ∷ []) ∷ []
event_steps (Gap first) outcome =
    numbered msg_types.RESEND_REQUEST
    (field tags.BEGIN_SEQ_NO (Number first) ∷ field tags.END_SEQ_NO (Number 0) ∷ []) ∷ []
event_steps (Resend first last) outcome = gap_fill first last ∷ []
event_steps (Reject n reason) outcome =
    numbered msg_types.REJECT
    (field tags.REF_SEQ_NUM (Number n) ∷ field tags.SESSION_REJECT_REASON (Number reason) ∷ []) ∷ []
event_steps (Close reason) outcome = close_steps reason
event_steps _ _ = []
