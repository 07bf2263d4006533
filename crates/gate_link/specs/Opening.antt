-- What `link` refuses.
use Rattle.std.specs.Prelude.{ℕ, ◌<◌, ◌≤◌}
use Rattle.spread_rules_ids.specs.declared.limits.TheConstants.{SESSIONS, MAX_RING, MAX_JOURNAL_ENTRIES}
use Rattle.gate_link_stages.specs.Faults.{Between, Outside}
use Rattle.gate_link_stages.specs.declared.fault.LinkFault.{LinkFault}
use Rattle.gate_link_stages.specs.declared.fault.LinkFault.TheVariants.{Sessions, Ring, NoMemory, Journal}

-- why a link was refused
abbrev pub IsRefusal : LinkFault → ℕ → ℕ → ℕ → Type 0
IsRefusal Sessions sessions ring journal = Outside 1 SESSIONS sessions
IsRefusal Ring sessions ring journal = Between 1 SESSIONS sessions × Outside 1 MAX_RING ring
IsRefusal Journal sessions ring journal =
    Between 1 SESSIONS sessions × Between 1 MAX_RING ring × (MAX_JOURNAL_ENTRIES < journal)
IsRefusal NoMemory sessions ring journal =
    Between 1 SESSIONS sessions × Between 1 MAX_RING ring × (journal ≤ MAX_JOURNAL_ENTRIES)
