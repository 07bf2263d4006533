-- The session messages that the desk writes, one by one.
-- Words of the code alone.
use Rattle.std.specs.Prelude.{ℕ, ◌==◌, if◌then◌else◌, List, [], ◌∷◌, codes}
use Rattle.fix_wire_frames.specs.declared.tags.TheConstants as tags
use Rattle.fix_wire.specs.declared.writer.Field.{Field}
use Rattle.fix_wire.specs.declared.writer.Value.TheVariants.{Text, Number}
use Rattle.fix_wire.specs.Layout.{field}
use Rattle.spread_report_fields.specs.declared.codes.TheConstants.{ENCRYPT_METHOD_NONE}
use Rattle.spread_report_fields.specs.code.Fields.{text_field, number_field}

-- OrderID in an OrderCancelReject: the place of the order that was named, or `NONE`
abbrev pub place_field : ℕ → Field
place_field place =
    field tags.ORDER_ID (if place == 0 then Text (codes "NONE") else Number place)

-- the answer to a Logon
abbrev pub logon_fields : ℕ → List Field
logon_fields beat =
    number_field tags.ENCRYPT_METHOD ENCRYPT_METHOD_NONE ∷ number_field tags.HEART_BT_INT beat ∷ []

-- the answer to a TestRequest
abbrev pub heartbeat_fields : List ℕ → List Field
heartbeat_fields answer = text_field tags.TEST_REQ_ID answer ∷ []

-- an EndSeqNo of 0 asks for all that was sent from the first number on
abbrev pub resend_request_fields : ℕ → List Field
resend_request_fields first =
    number_field tags.BEGIN_SEQ_NO first ∷ number_field tags.END_SEQ_NO 0 ∷ []

-- a message that is refused, by its number, and why
abbrev pub reject_fields : ℕ → ℕ → List Field
reject_fields n reason =
    number_field tags.REF_SEQ_NUM n ∷ number_field tags.SESSION_REJECT_REASON reason ∷ []
