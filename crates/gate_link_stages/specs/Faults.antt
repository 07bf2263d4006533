-- Why no ring is made.
use Rattle.std.specs.Prelude.{ℕ, ◌<◌, ◌≤◌, ◌⊎◌}
use Rattle.spread_rules_ids.specs.declared.limits.TheConstants.{MAX_RING}
use Rattle.gate_link_stages.specs.declared.fault.LinkFault.{LinkFault}
use Rattle.gate_link_stages.specs.declared.fault.LinkFault.TheVariants.{Sessions, Ring, NoMemory, Journal}

abbrev pub fault_number : LinkFault → ℕ
fault_number Sessions = 1
fault_number Ring = 2
fault_number NoMemory = 3
fault_number Journal = 4

abbrev pub Between : ℕ → ℕ → ℕ → Type 0
Between low high n = (low ≤ n) × (n ≤ high)

abbrev pub Outside : ℕ → ℕ → ℕ → Type 0
Outside low high n = (n < low) ⊎ (high < n)

-- room for 1 to 4,096 items
abbrev pub IsRingSize : ℕ → Type 0
IsRingSize ring = Between 1 MAX_RING ring

-- why a ring was refused
abbrev pub IsRingRefusal : LinkFault → ℕ → Type 0
IsRingRefusal Ring ring = Outside 1 MAX_RING ring
IsRingRefusal NoMemory ring = IsRingSize ring
IsRingRefusal _ ring = ⊥
