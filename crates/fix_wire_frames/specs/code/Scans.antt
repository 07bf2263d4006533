-- What the code finds at the front of a text.
-- Words of the code alone.
use Rattle.std.specs.Prelude.{ℕ, ◌+◌, Bool, ◌&&◌, ◌||◌, nat_le, nat_lt, if◌then◌else◌, List, Option, Some, None, option_map, length, take, drop, find, unwrap_or, ◌==◌, [], slice_range}
use Rattle.std.specs.List.{position_or_len}
use Rattle.spread_rules_ids.specs.declared.limits.TheConstants.{MIN_BODY_LENGTH, MAX_BODY_LENGTH}
use Rattle.fix_wire_frames.specs.declared.frame.FrameHeader.{FrameHeader}
use Rattle.fix_wire_frames.specs.declared.frame.TheConstants.{BEGIN_BYTES}
use Rattle.fix_wire_frames.specs.declared.frame.Scan.{Scan}
use Rattle.fix_wire_frames.specs.declared.frame.Scan.TheVariants.{Frame, Incomplete, Garbled}
use Rattle.fix_wire_frames.specs.declared.frame.LeadingField.{LeadingField}
use Rattle.fix_wire_frames.specs.declared.frame.Tag.{Tag}
use Rattle.fix_wire_frames.specs.code.Texts.{is_soh, stripped, is_cut_short}
use Rattle.fix_wire_frames.specs.Fields.{TagValue, fields_of_body, field_of_text}
use Rattle.fix_wire_frames.specs.Frames.{begin_text, frame_at, may_begin}
use Rattle.fix_wire_frames.specs.code.Frames.{is_length_open}

abbrev pub scan_with : Bool → Option ℕ → Scan
scan_with may (Some n) = Frame n
scan_with may None = if may then Incomplete else Garbled

-- a lawful frame, what may still begin one, or neither
abbrev pub scan_front : List ℕ → Scan
scan_front text = scan_with (may_begin text) (frame_at text)

-- the header that so many digits of BodyLength give, which say that number
abbrev pub header_read : ℕ → ℕ → Option FrameHeader
header_read digits number =
    if nat_le 1 digits && nat_le MIN_BODY_LENGTH number && nat_le number MAX_BODY_LENGTH
    then Some (record { body_start = digits + (BEGIN_BYTES + 1); body_length = number })
    else None

-- a text without a header may still begin a frame
abbrev pub is_header_open : List ℕ → Bool
is_header_open text = is_cut_short begin_text text || is_length_open (stripped begin_text text)

abbrev pub field_up_to : ℕ → List ℕ → Option (TagValue × List ℕ)
field_up_to end body =
    if nat_lt end (length body)
    then option_map (λ f. (f, drop (end + 1) body)) (field_of_text (take end body))
    else None

-- the first field of a body, and the fields after it
abbrev pub first_field : List ℕ → Option (TagValue × List ℕ)
first_field body = field_up_to (position_or_len is_soh body) body

-- a field whose tag is spelled by so many digits
abbrev pub tag_view : List ℕ → Tag → TagValue
tag_view text t = record { tag = t.number; value = drop (t.digits + 1) text }

-- a field that stands in front of a body, and the fields after it
abbrev pub leading_field_view : List ℕ → LeadingField → TagValue × List ℕ
leading_field_view body p =
    (record { tag = p.tag; value = slice_range body p.start p.end }, drop (p.end + 1) body)

-- the value of the first field of a body with that tag
abbrev pub value_of : ℕ → List ℕ → Option (List ℕ)
value_of tag text =
    option_map (λ f. f.value) (find (λ f. f.tag == tag) (unwrap_or (fields_of_body text) []))
