-- How far a text of day lines was read that comes in pieces. In the text SOH stands already for each `|`.
-- Words of the code alone.
use Rattle.std.specs.Prelude.{◌≡◌, ℕ, List, ◌++◌, Some, None, Err}
use Rattle.spread_rules_ids.specs.declared.bytes.TheConstants.{LINE_FEED}
use Rattle.spread_rules_ids.specs.Cut.{Lacks}
use Rattle.intake_lines.specs.LineText.{DayLine}
use Rattle.intake_lines.specs.code.OneByOne.{lines_of, prepend, session_lines, lines_said}
use Rattle.intake_lines.specs.code.LineSessions.{AreFed}
use Rattle.intake_lines.specs.declared.day_reader.DayReader.{DayReader}

-- No line that ended was bad. Whatever follows, the text says what was fed, and then what the rest says with it.
pub record IsGoing {A : Type 0} (text : List ℕ) (reader : DayReader A) : Type 0 where
  pub done : List DayLine
  pub fed : AreFed done reader.line_sessions
  pub says : (more : List ℕ) → lines_said (text ++ more)
      ≡ prepend done (session_lines reader.number (lines_of (reader.rest.items ++ more)))
  -- no line ends in the rest
  pub unended : Lacks LINE_FEED reader.rest.items

-- whatever follows, this is the first bad line of the text
abbrev pub HasBadLine : List ℕ → ℕ → Type 0
HasBadLine text n = (more : List ℕ) → lines_said (text ++ more) ≡ Err n

-- this text was read, as far as its first bad line
pub record HasRead {A : Type 0} (text : List ℕ) (reader : DayReader A) : Type 0 where
  pub going : reader.bad ≡ None → IsGoing text reader
  pub stopped : (n : ℕ) → reader.bad ≡ Some n → HasBadLine text n

-- some text was read
abbrev pub IsReading : {A : Type 0} → DayReader A → Type 0
IsReading reader = (text : List ℕ) × HasRead text reader

-- this piece was read behind the text before
abbrev pub ReadsOn : {A : Type 0} → List ℕ → DayReader A → DayReader A → Type 0
ReadsOn piece old new = (text : List ℕ) → HasRead text old → HasRead (text ++ piece) new
