-- How a message is written, and that it is read back.
use Rattle.std.specs.Prelude.{◌≡◌, ◌≢◌, ℕ, ◌%◌, ◌<◌, ◌≤◌, ◌^◌, true, if◌then◌else◌, Option, Some, None, option_map, take, List, [], ◌∷◌, ◌++◌, map, length, sum, decimal, unsigned_abs, codes}
use Rattle.std.specs.List.{flat_map, AllByRecursion}
use Rattle.spread_rules_ids.specs.declared.bytes.TheConstants.{EQUALS, HYPHEN_MINUS, SOH}
use Rattle.spread_rules_ids.specs.declared.limits.TheConstants.{MAX_BODY_LENGTH}
use Rattle.spread_rules_ids.specs.Ids.{is_plain}
use Rattle.fix_wire_frames.specs.declared.frame.TheConstants.{MAX_TAG_DIGITS}
use Rattle.fix_wire_frames.specs.declared.tags.TheConstants as tags
use Rattle.fix_wire.specs.declared.writer.Value.{Value}
use Rattle.fix_wire.specs.declared.writer.Value.TheVariants.{Text, Number, Price, Pair}
use Rattle.fix_wire.specs.declared.writer.Field as given
use Rattle.fix_wire.specs.declared.writer.Head.{Head}
use Rattle.fix_wire.specs.declared.writer.SpelledHead.{SpelledHead}
use Rattle.fix_wire.specs.declared.parties.SpelledParties.{SpelledParties}
use Rattle.fix_wire.specs.declared.parties.TheConstants.{MAX_PARTIES_LENGTH}
use Rattle.fix_wire_values.specs.Values.{price_text}
use Rattle.fix_wire_frames.specs.Fields.{TagValue}
use Rattle.fix_wire_frames.specs.Frames.{begin_text, checksum_field, IsFrame, frames}
use Rattle.fix_wire_frames.specs.Messages.{fields}

-- what a field's value is written as; a pair is `a-b`
abbrev pub value_text : Value → List ℕ
value_text (Text id) = id
value_text (Number n) = decimal n
value_text (Price z) = price_text z
value_text (Pair a b) = decimal a ++ (HYPHEN_MINUS ∷ decimal b)

abbrev pub field : ℕ → Value → given.Field
field tag value = record { tag = tag; value = value }

-- a field as it is written: its tag, `=`, its value and SOH
abbrev pub field_text : given.Field → List ℕ
field_text f = (decimal f.tag ++ (EQUALS ∷ value_text f.value)) ++ (SOH ∷ [])

-- what each message begins with: MsgType, MsgSeqNum, PossDupFlag in a duplicate, SenderCompID, SendingTime,
-- TargetCompID, and OrigSendingTime in a duplicate
abbrev pub head_fields : Head → List given.Field
head_fields h =
    field tags.MSG_TYPE (Text (h.kind ∷ [])) ∷ field tags.MSG_SEQ_NUM (Number h.number)
    ∷ (if h.duplicate then field tags.POSS_DUP_FLAG (Text (codes "Y")) ∷ [] else [])
    ++ field tags.SENDER_COMP_ID (Text h.sender) ∷ field tags.SENDING_TIME (Text h.stamp)
    ∷ field tags.TARGET_COMP_ID (Text h.target)
    ∷ (if h.duplicate then field tags.ORIG_SENDING_TIME (Text h.stamp) ∷ [] else [])

-- The one text of a message: BeginString, BodyLength without leading zeros, the body, which is MsgType to the last
-- field, and CheckSum, which sums all bytes before it.
abbrev pub message_text : Head → List given.Field → List ℕ
message_text h fs =
    let body = flat_map field_text (head_fields h ++ fs) in
    let summed = begin_text ++ (decimal (length body) ++ (SOH ∷ body)) in
    summed ++ checksum_field (sum summed % 256)

-- ---- the body, and its fields as they are read

abbrev pub body_text : Head → List given.Field → List ℕ
body_text h fs = flat_map field_text (head_fields h ++ fs)

-- a field as it is read
abbrev pub field_of_given : given.Field → TagValue
field_of_given f = record { tag = f.tag; value = value_text f.value }

-- all fields of a message
abbrev pub all_fields : Head → List given.Field → List TagValue
all_fields h fs = map field_of_given (head_fields h ++ fs)

-- ---- a head that is spelled in part

-- these bytes are SenderCompID, SendingTime and TargetCompID
pub record SpellsParties (p : SpelledParties) (sender target stamp : List ℕ) : Type 0 where
  pub text : take p.len p.bytes ≡ flat_map field_text
      (field tags.SENDER_COMP_ID (Text sender) ∷ field tags.SENDING_TIME (Text stamp)
      ∷ field tags.TARGET_COMP_ID (Text target) ∷ [])
  pub short : p.len ≤ MAX_PARTIES_LENGTH
  pub sender_plain : is_plain sender ≡ true
  pub target_plain : is_plain target ≡ true
  pub stamp_plain : is_plain stamp ≡ true

-- the OrigSendingTime that a duplicate bears
abbrev pub orig_time : SpelledHead → Option (List ℕ)
orig_time l = option_map (λ t. t.now) l.orig_time

-- it is that head
pub record SpellsHead (l : SpelledHead) (h : Head) : Type 0 where
  pub kind : l.kind ≡ h.kind
  pub number : l.number ≡ h.number
  pub duplicate : orig_time l ≡ (if h.duplicate then Some h.stamp else None)
  pub parties : SpellsParties l.parties.now h.sender h.target h.stamp

-- ---- which messages are read back

-- a value in the range of its type
abbrev pub FitsValue : Value → Type 0
FitsValue (Text id) = is_plain id ≡ true
FitsValue (Number n) = n < 2 ^ 64
FitsValue (Price z) = unsigned_abs z < 2 ^ 64
FitsValue (Pair a b) = (a < 2 ^ 64) × (b < 2 ^ 64)

abbrev pub FitsValueOf : given.Field → Type 0
FitsValueOf f = FitsValue f.value

-- a tag of one to nine digits
abbrev pub FitsTag : given.Field → Type 0
FitsTag f = (1 ≤ f.tag) × (f.tag < 10 ^ MAX_TAG_DIGITS)

abbrev pub FitsField : given.Field → Type 0
FitsField f = (1 ≤ f.tag) × (f.tag < 10 ^ MAX_TAG_DIGITS) × FitsValue f.value

-- the number and the ids keep to the ranges of their types
abbrev pub FitsTypes : Head → Type 0
FitsTypes h =
    (h.number < 2 ^ 64) × (is_plain h.sender ≡ true) × (is_plain h.target ≡ true)
    × (is_plain h.stamp ≡ true)

-- the kind isn't SOH
abbrev pub FitsKind : Head → Type 0
FitsKind h = h.kind ≢ SOH

-- the head keeps to both
abbrev pub FitsHead : Head → Type 0
FitsHead h = FitsKind h × FitsTypes h

abbrev pub FitsTags : List given.Field → Type 0
FitsTags fs = AllByRecursion FitsTag fs

-- a body that BodyLength allows
abbrev pub FitsBody : Head → List given.Field → Type 0
FitsBody h fs = length (body_text h fs) ≤ MAX_BODY_LENGTH

-- in range, and a body that BodyLength allows
abbrev pub FitsMessage : Head → List given.Field → Type 0
FitsMessage h fs = FitsHead h × AllByRecursion FitsField fs × FitsBody h fs

-- The message is a lawful frame with exactly these fields, and before any further bytes it is read first, alone and
-- whole.
pub record IsReadBack (h : Head) (fs : List given.Field) : Type 0 where
  pub lawful : IsFrame (message_text h fs)
  pub same : fields (message_text h fs) ≡ all_fields h fs
  pub first : (more : List ℕ) → frames (message_text h fs ++ more) ≡ message_text h fs ∷ frames more
