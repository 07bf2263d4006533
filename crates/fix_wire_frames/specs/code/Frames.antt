-- Words of the code alone, beside `Frames`: no promise of a whole day needs them to be read.
use Rattle.std.specs.Prelude.{◌≡◌, ℕ, ◌+◌, ◌-◌, ◌/◌, ◌%◌, Bool, false, ◌&&◌, ◌||◌, ◌==◌, nat_eq, nat_le, nat_lt, if◌then◌else◌, List, [], ◌∷◌, ◌++◌, Option, Some, None, is_some, length, take, drop, sum, codes}
use Rattle.std.specs.Bool.{then_some}
use Rattle.std.specs.Char.{is_ascii_digit}
use Rattle.std.specs.List.{list_all, position_or_len, starts_with}
use Rattle.std.specs.Option.{option_map_or}
use Rattle.std.specs.Str.{bytes_eq}
use Rattle.spread_rules_ids.specs.declared.bytes.TheConstants.{SOH}
use Rattle.fix_wire_frames.specs.declared.frame.FrameHeader.{FrameHeader}
use Rattle.fix_wire_frames.specs.declared.frame.TheConstants.{BEGIN_BYTES, CHECKSUM_BYTES, MAX_LENGTH_DIGITS}
use Rattle.fix_wire_values.specs.Digits.{number_of}
use Rattle.fix_wire_frames.specs.Fields.{fields_of_body}
use Rattle.fix_wire_frames.specs.Frames.{begin_text, body_at, checksum_field, frame_length, is_body_length, is_intact}

-- the header behind the begin text: BodyLength, and SOH
abbrev pub header_after : List ℕ → Option FrameHeader
header_after rest =
    let digits = position_or_len (λ b. b == SOH) rest in
    if nat_lt digits (length rest) && is_body_length (take digits rest)
    then Some (record {
      body_start = digits + (BEGIN_BYTES + 1);
      body_length = number_of (take digits rest);
    })
    else None

-- header_after, where so many bytes stand before the first SOH
abbrev pub header_with : ℕ → List ℕ → Option FrameHeader
header_with digits rest =
    if nat_lt digits (length rest) && is_body_length (take digits rest)
    then Some (record {
      body_start = digits + (BEGIN_BYTES + 1);
      body_length = number_of (take digits rest);
    })
    else None

-- a row of fields whose first is MsgType
abbrev pub is_body : List ℕ → Bool
is_body body = starts_with nat_eq body (codes "35=") && is_some (fields_of_body body)

-- is_intact, in the order of the code: the frame is there whole, its body is one, and its last bytes are its CheckSum
abbrev pub is_intact_by_size : List ℕ → FrameHeader → Bool
is_intact_by_size text h =
    let summed = h.body_start + h.body_length in
    nat_le (frame_length h) (length text) && is_body (body_at text h)
    && bytes_eq (take CHECKSUM_BYTES (drop summed text))
    (checksum_field (sum (take summed text) % 256))

abbrev pub intact_length : List ℕ → FrameHeader → Option ℕ
intact_length text h = then_some (is_intact text h) (frame_length h)

-- digits of BodyLength, and nothing more, follow the begin text
abbrev pub is_length_open : Option (List ℕ) → Bool
is_length_open behind =
    option_map_or (λ rest. nat_le (length rest) MAX_LENGTH_DIGITS && list_all is_ascii_digit rest)
    behind false

-- digits of BodyLength, and nothing more, follow the begin text, or it is cut short
abbrev pub is_front_open : List ℕ → Bool
is_front_open text =
    let digits = drop (length begin_text) text in
    starts_with nat_eq (begin_text ++ digits) text && nat_le (length digits) MAX_LENGTH_DIGITS
    && list_all is_ascii_digit digits

-- bytes of the frame that the header announces are still to come
abbrev pub is_unfinished : List ℕ → Option FrameHeader → Bool
is_unfinished text announced =
    option_map_or (λ h. nat_lt (length text) (frame_length h)) announced false
