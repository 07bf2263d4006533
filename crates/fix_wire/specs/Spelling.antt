-- The parts of a message as they are written, one behind the other.
-- `write_body` says by these words what it writes of a head that is spelled already.
use Rattle.std.specs.Prelude.{ℕ, Bool, if◌then◌else◌, List, [], ◌∷◌, ◌++◌, take, decimal, codes, Option, Some, None, is_some}
use Rattle.std.specs.List.{flat_map}
use Rattle.spread_rules_ids.specs.declared.bytes.TheConstants.{SOH}
use Rattle.fix_wire_frames.specs.Texts.{with_soh}
use Rattle.fix_wire.specs.declared.parties.SpelledParties.{SpelledParties}
use Rattle.fix_wire.specs.declared.writer.SpelledHead.{SpelledHead}
use Rattle.fix_wire.specs.declared.writer.Field as given
use Rattle.fix_wire.specs.Layout.{field_text, orig_time}

-- MsgType, MsgSeqNum, and PossDupFlag in a duplicate
abbrev pub kind_text : ℕ → ℕ → Bool → List ℕ
kind_text kind number duplicate =
    (codes "35=" ++ (kind ∷ with_soh (codes "|34="))) ++ (decimal number
    ++ (if duplicate then with_soh (codes "|43=Y|") else SOH ∷ []))

-- SenderCompID, SendingTime and TargetCompID
abbrev pub spelled : SpelledParties → List ℕ
spelled p = take p.len p.bytes

-- OrigSendingTime, in a duplicate
abbrev pub orig_text : Option (List ℕ) → List ℕ
orig_text None = []
orig_text (Some time) = (codes "122=" ++ time) ++ SOH ∷ []

-- the head
abbrev pub spelled_head : SpelledHead → List ℕ
spelled_head l =
    kind_text l.kind l.number (is_some (orig_time l)) ++ (spelled l.parties.now ++ orig_text (orig_time l))

-- MsgType to the last field
abbrev pub spelled_body : SpelledHead → List given.Field → List ℕ
spelled_body l fs = spelled_head l ++ flat_map field_text fs
