-- A number for each fault of the host, for callers of the library; no exit status and no part of a fault line.
use Rattle.std.specs.Prelude.{ℕ}
use Rattle.spread_host_faults.specs.declared.fault.HostFault.{HostFault}
use Rattle.intake_lines.specs.declared.lines.LinesFault.{LinesFault}
use Rattle.intake_lines.specs.declared.lines.LinesFault.TheVariants as lines
use Rattle.live_day.specs.declared.fault.ThreadsFault.{ThreadsFault}
use Rattle.live_day.specs.declared.fault.ThreadsFault.TheVariants as threads
use Rattle.apply_market.specs.declared.fault.ApplyFault.{ApplyFault}
use Rattle.apply_market.specs.declared.fault.ApplyFault.TheVariants as apply
use Rattle.text_day.specs.declared.fault.TextFault.{TextFault}
use Rattle.text_day.specs.declared.fault.TextFault.TheVariants as text
use Rattle.spread_host_faults.specs.declared.fault.HostFault.TheVariants.{DayLine, Rule, Link, Spawn, JournalFull, NoMemory, Read, Write, NumbersSpent, Journal}

abbrev pub number_of : HostFault → ℕ
number_of (DayLine line) = 1
number_of (Rule fault) = 2
number_of (Link fault) = 3
number_of (Spawn session) = 4
number_of JournalFull = 5
number_of (NoMemory place) = 6
number_of Read = 7
number_of Write = 8
number_of (NumbersSpent place) = 9
number_of (Journal fault) = 10

-- ---- the fault of a run whose part has this fault

abbrev pub of_lines : LinesFault → HostFault
of_lines lines.Read = Read
of_lines (lines.BadLine line) = DayLine line
of_lines lines.JournalFull = JournalFull
of_lines lines.NoMemory = NoMemory 0

abbrev pub of_threads : ThreadsFault → HostFault
of_threads (threads.Link fault) = Link fault
of_threads (threads.Spawn session) = Spawn session
of_threads threads.JournalFull = JournalFull
of_threads (threads.NoMemory place) = NoMemory place
of_threads (threads.NumbersSpent place) = NumbersSpent place

abbrev pub of_apply : ApplyFault → HostFault
of_apply (apply.NoMemory place) = NoMemory place
of_apply (apply.NumbersSpent place) = NumbersSpent place

abbrev pub of_text : TextFault → HostFault
of_text text.NoMemory = NoMemory 0
of_text text.Write = Write
