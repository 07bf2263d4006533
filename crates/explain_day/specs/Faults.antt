-- Which entry was explained, and why none was.
use Rattle.std.specs.Prelude.{◌≡◌, ℕ, ◌<◌, ◌≤◌, ◌⊎◌, List, length, Err}
use Rattle.spread_rules.specs.declared.event.Entry.{Entry}
use Rattle.spread_journal.specs.JournalReading.{ReadsJournal}
use Rattle.spread_journal.specs.Lawful.{IsTextOf}
use Rattle.explain_day.specs.declared.fault.ExplainFault.{ExplainFault}
use Rattle.explain_day.specs.declared.fault.ExplainFault.TheVariants as faults

-- the text is that of a journal that has an entry of that place
abbrev pub HasEntryAt : List ℕ → ℕ → Type 0
HasEntryAt text place =
    (journal : List Entry) × IsTextOf text journal × (1 ≤ place) × (place ≤ length journal)

-- the text is that of a journal that has none
abbrev pub LacksEntryAt : List ℕ → ℕ → Type 0
LacksEntryAt text place =
    (journal : List Entry) × IsTextOf text journal × ((place ≡ 0) ⊎ (length journal < place))

-- the first fault of the text, the place, memory, or the sink
abbrev pub IsExplainFault : List ℕ → ℕ → ExplainFault → Type 0
IsExplainFault text place (faults.Journal fault) = ReadsJournal text (Err fault)
IsExplainFault text place faults.Place = LacksEntryAt text place
IsExplainFault text place faults.NoMemory = Unit {0}
IsExplainFault text place faults.Write = Unit {0}
