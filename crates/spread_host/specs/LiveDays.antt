-- Why a day in threads was not handed out.
use Rattle.std.specs.Prelude.{◌≡◌, ℕ, ◌+◌, ◌<◌, ◌≤◌, ◌⊎◌, List, length}
use Rattle.std.specs.declared.vec.Vec.{Vec}
use Rattle.spread_rules_rulebook.specs.Rulebook.{Rules}
use Rattle.gate_link.specs.Opening.{IsRefusal}
use Rattle.live_sessions.specs.Streams.{all_events, IsBeginningWithin}
use Rattle.apply_desk.specs.Applied.{IsPlaceOf, IsSpentOf}
use Rattle.spread_host_faults.specs.declared.fault.HostFault.{HostFault}
use Rattle.spread_host_faults.specs.declared.fault.HostFault.TheVariants.{Link, Spawn, JournalFull, NoMemory, NumbersSpent}

-- the link of gateways and sequencer was refused
abbrev pub IsLink : HostFault → Type 0
IsLink (Link fault) = Unit {0}
IsLink _ = ⊥

-- why these streams gave no day, over rings and with a journal of these sizes: the places are of a journal that has a
-- beginning of each stream's events, and for which there is room
abbrev pub IsRunDayFault : {A : Type 0} → Rules → List (Vec ℕ A) → ℕ → ℕ → HostFault → Type 0
IsRunDayFault rules streams ring journal (Link fault) = IsRefusal fault (length streams) ring journal
IsRunDayFault rules streams ring journal (Spawn k) = k ≤ length streams + length streams
IsRunDayFault rules streams ring journal JournalFull = journal < all_events streams
IsRunDayFault rules streams ring journal (NoMemory place) =
    (place ≡ 0) ⊎ IsPlaceOf (IsBeginningWithin streams journal) place
IsRunDayFault rules streams ring journal (NumbersSpent place) =
    IsSpentOf rules (IsBeginningWithin streams journal) place
IsRunDayFault rules streams ring journal _ = ⊥
