-- Lawful frames, what may still begin one, and the frames of an input (FIX 4.2: BeginString, BodyLength, body,
-- CheckSum).
use Rattle.std.specs.Prelude.{◌≡◌, ℕ, zero, suc, ◌+◌, ◌-◌, ◌/◌, ◌%◌, Bool, false, ◌&&◌, ◌||◌, ◌==◌, nat_eq, nat_le, nat_lt, if◌then◌else◌, List, [], ◌∷◌, ◌++◌, Option, Some, None, option_and_then, is_some, length, take, drop, sum, codes}
use Rattle.std.specs.Bool.{then_some}
use Rattle.std.specs.Char.{is_ascii_digit}
use Rattle.std.specs.List.{list_all, before_first, starts_with, AllByRecursion, concat}
use Rattle.std.specs.Option.{option_map_or}
use Rattle.spread_rules_ids.specs.declared.bytes.TheConstants.{DIGIT_ZERO, SOH}
use Rattle.spread_rules_ids.specs.declared.limits.TheConstants.{MIN_BODY_LENGTH, MAX_BODY_LENGTH}
use Rattle.fix_wire_frames.specs.declared.frame.FrameHeader.{FrameHeader}
use Rattle.fix_wire_frames.specs.declared.frame.TheConstants.{CHECKSUM_BYTES, MAX_LENGTH_DIGITS}
use Rattle.fix_wire_frames.specs.Texts.{with_soh}
use Rattle.fix_wire_values.specs.Digits.{number_of, two_digits}
use Rattle.fix_wire_values.specs.Values.{is_number}
use Rattle.fix_wire_frames.specs.Fields.{fields_of_body}

-- ---- the header: BeginString and BodyLength

-- what each frame begins with: BeginString, and the tag of BodyLength
abbrev pub begin_text : List ℕ
begin_text = with_soh (codes "8=FIX.4.2|9=")

-- 1 to 8 digits of a number from 5 to 4096; leading zeros are allowed
abbrev pub is_body_length : List ℕ → Bool
is_body_length digits =
    is_number digits && nat_le (length digits) MAX_LENGTH_DIGITS
    && nat_le MIN_BODY_LENGTH (number_of digits) && nat_le (number_of digits) MAX_BODY_LENGTH

-- Where the body starts of a text that begins with the header of a frame, and how long it is: the header is what each
-- frame begins with, BodyLength and SOH.
abbrev pub header : List ℕ → Option FrameHeader
header text =
    let digits = before_first (λ b. b == SOH) (drop (length begin_text) text) in
    let start = begin_text ++ (digits ++ (SOH ∷ [])) in
    then_some (starts_with nat_eq text start && is_body_length digits)
    (record { body_start = length start; body_length = number_of digits })

-- the length of a frame: its header, its body, and CheckSum
abbrev pub frame_length : FrameHeader → ℕ
frame_length h = h.body_start + h.body_length + CHECKSUM_BYTES

-- ---- a lawful frame

-- CheckSum: its tag, a number in three digits, and SOH
abbrev pub checksum_field : ℕ → List ℕ
checksum_field n = codes "10=" ++ ((DIGIT_ZERO + n / 100) ∷ two_digits n ++ (SOH ∷ []))

abbrev pub body_at : List ℕ → FrameHeader → List ℕ
body_at text h = take h.body_length (drop h.body_start text)

-- The body is a row of fields whose first is MsgType, and CheckSum follows: the sum of all bytes before it, modulo 256.
abbrev pub is_intact : List ℕ → FrameHeader → Bool
is_intact text h =
    let summed = take (h.body_start + h.body_length) text in
    starts_with nat_eq (body_at text h) (codes "35=") && is_some (fields_of_body (body_at text h))
    && starts_with nat_eq text (summed ++ checksum_field (sum summed % 256))

-- the length of the lawful frame that stands at the front of a text
abbrev pub frame_at : List ℕ → Option ℕ
frame_at text = option_and_then (λ h. then_some (is_intact text h) (frame_length h)) (header text)

-- the text is one lawful frame
abbrev pub IsFrame : List ℕ → Type 0
IsFrame bytes = frame_at bytes ≡ Some (length bytes)

-- the text is lawful frames, one after another
pub record IsFrameRow (text : List ℕ) : Type 0 where
  pub row : List (List ℕ)
  pub whole : AllByRecursion IsFrame row
  pub joined : concat row ≡ text

-- ---- what may still begin one

-- The text may still begin a frame: it is the front of what each frame begins with and of digits of BodyLength, or
-- bytes of the frame that its header announces are still to come.
abbrev pub may_begin : List ℕ → Bool
may_begin text =
    let digits = drop (length begin_text) text in
    (starts_with nat_eq (begin_text ++ digits) text && nat_le (length digits) MAX_LENGTH_DIGITS
    && list_all is_ascii_digit digits)
    || option_map_or (λ h. nat_lt (length text) (frame_length h)) (header text) false

-- ---- the frames of an input

-- The frames of an input from its place `skip` on. Where a frame stands, that one and then those after it; else,
-- where the rest may still begin one, none; else those from the next place.
abbrev pub frames_after : ℕ → List ℕ → List (List ℕ)
frames_after skip [] = []
frames_after (suc skip) (b ∷ bs) = frames_after skip bs
frames_after zero (b ∷ bs) = elim (frame_at (b ∷ bs)) [
  | Some n ↦ take n (b ∷ bs) ∷ frames_after (n - 1) bs
  | None ↦ if may_begin (b ∷ bs) then [] else frames_after 0 bs
]

-- the frames of an input
abbrev pub frames : List ℕ → List (List ℕ)
frames input = frames_after 0 input
