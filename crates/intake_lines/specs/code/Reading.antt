-- Words of the code alone, beside `Reading`: no promise of a whole day needs them to be read.
use Rattle.std.specs.Prelude.{◌≡◌, ℕ, ◌<◌, ◌==◌, if◌then◌else◌, List, [], length, Err}
use Rattle.std.specs.List.{list_any}
use Rattle.std.specs.Result.{IsOkAnd}
use Rattle.spread_rules_ids.specs.declared.limits.TheConstants.{MAX_JOURNAL_ENTRIES}
use Rattle.spread_rules.specs.declared.event.Entry.{Entry}
use Rattle.spread_rules.specs.Journal.{restricted}
use Rattle.fix_session_judging.specs.Streams.{whole}
use Rattle.intake_lines.specs.LineText.{day_lines_of}
use Rattle.intake_lines.specs.DayLines.{stream_of, journal_of_lines}
use Rattle.intake_lines.specs.declared.lines.LinesFault.{LinesFault}
use Rattle.intake_lines.specs.declared.lines.LinesFault.TheVariants.{Read, BadLine, JournalFull, NoMemory}

-- each session's part of the journal is what its whole stream says, and nothing where it had no line
abbrev pub HasParts : List ℕ → List Entry → Type 0
HasParts input journal = IsOkAnd (day_lines_of input) (λ lines. (s : ℕ) →
    restricted s journal
    ≡ (if list_any (λ l. l.session == s) lines then whole (stream_of s lines) else []))

-- the journal of this input would have more entries than a journal may
abbrev pub IsTooLong : List ℕ → Type 0
IsTooLong input =
    IsOkAnd (day_lines_of input) (λ lines. MAX_JOURNAL_ENTRIES < length (journal_of_lines lines))

-- why an input has no journal: its first bad line, or too many entries; or it was not read, or memory
abbrev pub IsLinesFault : List ℕ → LinesFault → Type 0
IsLinesFault input Read = Unit {0}
IsLinesFault input (BadLine n) = day_lines_of input ≡ Err n
IsLinesFault input JournalFull = IsTooLong input
IsLinesFault input NoMemory = Unit {0}
