-- The numbers of the faults.
use Rattle.std.specs.Prelude.{ℕ}
use Rattle.spread_report_outbound.specs.declared.fault.DeskFault.{DeskFault}
use Rattle.spread_report_outbound.specs.declared.fault.DeskFault.TheVariants.{NoMemory, NumbersSpent}

abbrev pub fault_number : DeskFault → ℕ
fault_number NoMemory = 1
fault_number NumbersSpent = 2
