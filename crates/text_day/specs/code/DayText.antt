-- Words of the code alone, beside `DayText`: no promise of a whole day needs them to be read.
use Rattle.std.specs.Prelude.{ℕ, Bool, true, false, List, ◌++◌}
use Rattle.spread_journal_lines.specs.JournalText.{journal_text}
use Rattle.spread_rules.specs.declared.event.Entry.{Entry}
use Rattle.spread_rules.specs.declared.fill.Fill.{Fill}
use Rattle.spread_rules_rulebook.specs.Rulebook.{Rules}
use Rattle.text_fills.specs.code.Fills.{fill_lines}
use Rattle.text_messages.specs.code.Messages.{outgoing_lines}
use Rattle.text_day.specs.code.Months.{month_lines}

-- the lines of fills, and of months
abbrev pub fills_text : Rules → List Fill → List ℕ
fills_text rules fills = fill_lines rules fills ++ month_lines rules fills

-- the text of a day: the journal, fills, then what each session is sent, then the months; or the journal alone
abbrev pub day_text : Bool → Rules → List Entry → List Fill → List (List ℕ) → List ℕ
day_text true rules journal fills texts = journal_text journal
day_text false rules journal fills texts =
    journal_text journal
    ++ fill_lines rules fills
    ++ outgoing_lines texts
    ++ month_lines rules fills
