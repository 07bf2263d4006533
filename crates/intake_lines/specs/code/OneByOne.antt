-- What day lines say, one line after another.
-- Words of the code alone.
use Rattle.std.specs.Prelude.{ℕ, ◌+◌, ◌-◌, ◌==◌, ◌&&◌, nat_le, if◌then◌else◌, List, [], ◌∷◌, ◌++◌, Option, Some, None, option_map, Result, Ok, Err}
use Rattle.std.specs.Char.{is_ascii_digit}
use Rattle.std.specs.List.{slice_split}
use Rattle.spread_rules_ids.specs.declared.bytes.TheConstants.{COLON, DIGIT_ZERO, LINE_FEED}
use Rattle.fix_wire_frames.specs.code.Texts.{stripped}
use Rattle.intake_lines.specs.LineText.{DayLine}
use Rattle.intake_lines.specs.code.LineText.{is_passed_over}

-- the lines of a text: what stands between its line feeds
abbrev pub lines_of : List ℕ → List (List ℕ)
lines_of text = slice_split (λ b. b == LINE_FEED) text

abbrev pub day_line : ℕ → List ℕ → DayLine
day_line session bytes = record { session = session; bytes = bytes }

-- a line of a session, byte by byte: a number from 0 to 15, a colon, and bytes
abbrev pub line_by_bytes : List ℕ → Option DayLine
line_by_bytes (a ∷ b ∷ rest) =
    if is_ascii_digit a && b == COLON then Some (day_line (a - DIGIT_ZERO) rest)
    else (if a == (DIGIT_ZERO + 1) && nat_le DIGIT_ZERO b && nat_le b (DIGIT_ZERO + 5)
    then option_map (day_line (10 + (b - DIGIT_ZERO))) (stripped (COLON ∷ []) rest)
    else None)
line_by_bytes _ = None

-- what one line says: nothing where it is passed over, None where it is a bad line
abbrev pub one_line : List ℕ → Option (List DayLine)
one_line line =
    if is_passed_over line then Some [] else option_map (λ l. l ∷ []) (line_by_bytes line)

-- these lines, and then those of an answer
abbrev pub prepend : List DayLine → Result (List DayLine) ℕ → Result (List DayLine) ℕ
prepend done (Err n) = Err n
prepend done (Ok ls) = Ok (done ++ ls)

-- what line n says, and then what the later ones say; or the number of a bad line
abbrev pub line_and_later : ℕ → Option (List DayLine) → Result (List DayLine) ℕ
    → Result (List DayLine) ℕ
line_and_later n None later = Err n
line_and_later n (Some says) later = prepend says later

-- the lines of sessions, or the number of the first bad line, where the first of these lines has number n
abbrev pub session_lines : ℕ → List (List ℕ) → Result (List DayLine) ℕ
session_lines n [] = Ok []
session_lines n (l ∷ ls) = line_and_later n (one_line l) (session_lines (n + 1) ls)

-- what a text says in which SOH stands already for each `|`
abbrev pub lines_said : List ℕ → Result (List DayLine) ℕ
lines_said text = session_lines 1 (lines_of text)
