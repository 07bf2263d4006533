-- Words of the code alone, beside `Messages`: no promise of a whole day needs them to be read.
use Rattle.std.specs.Prelude.{ℕ, ◌==◌, if◌then◌else◌, List, [], ◌∷◌, ◌++◌}
use Rattle.std.specs.List.{flat_map, enumerate_from}
use Rattle.fix_wire_frames.specs.Frames.{frames}
use Rattle.spread_rules_ids.specs.declared.bytes.TheConstants.{SOH, VERTICAL_BAR}
use Rattle.text_messages.specs.Messages.{outgoing_line}

-- a line for each message, session by session
abbrev pub outgoing_lines : List (List ℕ) → List ℕ
outgoing_lines texts =
    flat_map (λ s. flat_map (outgoing_line s.0) (frames s.1)) (enumerate_from 0 texts)

abbrev pub shown_byte : ℕ → ℕ
shown_byte b = if b == SOH then VERTICAL_BAR else b

-- one session's lines
abbrev pub session_lines : ℕ → List ℕ → List ℕ
session_lines session bytes = flat_map (outgoing_line session) (frames bytes)

-- the lines of these sessions, of which the first has this number
abbrev pub outgoing_lines_from : ℕ → List (List ℕ) → List ℕ
outgoing_lines_from session texts =
    flat_map (λ s. session_lines s.0 s.1) (enumerate_from session texts)
