-- A journal text drawn: what is read, and why none is.
use Rattle.std.specs.Prelude.{ℕ, List, Err}
use Rattle.spread_rules.specs.declared.event.Entry.{Entry}
use Rattle.spread_rules.specs.Journal.{IsLawful}
use Rattle.spread_journal.specs.JournalReading.{ReadsJournal}
use Rattle.spread_journal.specs.Lawful.{IsTextOf}
use Rattle.draw_day.specs.declared.fault.DrawFault.{DrawFault}
use Rattle.draw_day.specs.declared.fault.DrawFault.TheVariants as faults

-- the text is that of a lawful journal
pub record IsRead (text : List ℕ) : Type 0 where
  pub journal : List Entry
  pub spelled : IsTextOf text journal
  pub lawful : IsLawful journal

-- why a journal text was not drawn: the first fault of the text; memory and the sink may fail at any
abbrev pub IsDrawFault : List ℕ → DrawFault → Type 0
IsDrawFault text (faults.Journal fault) = ReadsJournal text (Err fault)
IsDrawFault text faults.NoMemory = Unit {0}
IsDrawFault text faults.Write = Unit {0}
