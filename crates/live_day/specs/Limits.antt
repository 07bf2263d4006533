-- What a day in threads is made for.
use Rattle.std.specs.Prelude.{ℕ, ◌≤◌}
use Rattle.spread_rules_ids.specs.declared.limits.TheConstants.{SESSIONS, MAX_RING, MAX_JOURNAL_ENTRIES}
use Rattle.gate_link_stages.specs.Faults.{Between}

-- this many sessions, a ring of this size and a journal of this size are within the limits
abbrev pub IsWithinLimits : ℕ → ℕ → ℕ → Type 0
IsWithinLimits sessions ring journal =
    Between 1 SESSIONS sessions × Between 1 MAX_RING ring × (journal ≤ MAX_JOURNAL_ENTRIES)
