-- The ends of a day's rings in one thread again, and the fault of how the two ended.
-- Words of the code alone.
use Rattle.std.specs.Prelude.{◌≡◌, ℕ, ◌+◌, ◌<◌, ◌≤◌, ◌⊎◌, List, length, Vec}
use mathlib.Core.List.{IsPrefix}
use Rattle.spread_rules_ids.specs.declared.limits.TheConstants.{SESSIONS}
use Rattle.gate_link_stages.specs.Feeding.{given, taken, AreFeedPair}
use Rattle.spread_rules.specs.declared.event.Entry.{Entry}
use Rattle.spread_rules.specs.Journal.{restricted}
use Rattle.live_sessions.specs.Streams.{IsBeginningOf, whole_at}
use Rattle.live_sessions.specs.code.Sequencing.{SequenceEnds}
use Rattle.live_writers.specs.code.Writing.{AreJoinedPairs, written_at}
use Rattle.live_sessions.specs.declared.sequencing.Sequenced.{Sequenced}
use Rattle.live_sessions.specs.declared.sequencing.SequenceEnd.{SequenceEnd}
use Rattle.live_sessions.specs.declared.sequencing.SequenceEnd.TheVariants.{JournalFull as Full}
use Rattle.live_writers.specs.declared.writing.Written.{Written}
use Rattle.apply_market.specs.declared.fault.ApplyFault.TheVariants as apply
use Rattle.live_matching.specs.code.Matching.{HasWorked, MatchEnds}
use Rattle.live_matching.specs.code.Posting.{HasPosted, posted_at}
use Rattle.live_day.specs.declared.fault.ThreadsFault.{ThreadsFault}
use Rattle.live_day.specs.declared.fault.ThreadsFault.TheVariants.{Link, Spawn, JournalFull, NoMemory, NumbersSpent}
use Rattle.live_matching.specs.declared.turns.Matched.{Matched}
use Rattle.live_matching.specs.declared.step.MatchEnd.{MatchEnd}
use Rattle.live_matching.specs.declared.step.MatchEnd.TheVariants.{Fault}
use Rattle.live_matching.specs.declared.posting.PostedEntries.{PostedEntries}

-- both ends of each ring in one thread again, with what each part promised
pub record AreJoined {A : Type 0} (room : ℕ) (streams : List (Vec ℕ A)) (q : Sequenced A)
    (m : Matched A) (ws : List (Written A)) : Type 0 where
  pub feed : AreFeedPair q.feeder m.matcher
  pub posts : AreJoinedPairs m.posted.posters.items ws
  pub few_writers : length ws ≤ SESSIONS
  pub worked : HasWorked m.end m.worked (taken m.matcher)
  pub given_on : IsPrefix (given q.feeder) q.journal.items
  pub parts : IsBeginningOf streams q.journal.items
  pub size : length q.journal.items ≤ room
  pub sequenced : SequenceEnds q.end room streams q.journal.items q.feeder
  pub matched : MatchEnds m.end (taken m.matcher) m.posted

-- the journal is that of these streams, what its entries send was given to the writers, and each writer has it
pub record IsWhole {A : Type 0} (streams : List (Vec ℕ A)) (journal : List Entry)
    (p : PostedEntries A) (ws : List (Written A)) : Type 0 where
  pub parts : (s : ℕ) → restricted s journal ≡ whole_at streams s
  pub posted : HasPosted journal p
  pub count : length p.posters.items ≡ length ws
  pub written : (s : ℕ) → s < length ws → written_at ws s ≡ posted_at p.posters.items s

-- Want of memory is told at the place behind the entries that were worked through, or where the matching thread met it.
abbrev pub IsToldBehind : ℕ → MatchEnd → ThreadsFault → Type 0
IsToldBehind worked m (NoMemory p) = (p ≡ worked + 1) ⊎ (m ≡ Fault (apply.NoMemory p))
IsToldBehind worked m _ = Unit {0}

-- a fault of a day whose sequencer and matching thread ended so; what else found no memory is told
-- at this place
abbrev pub IsFaultOfEnds : SequenceEnd → MatchEnd → ℕ → ThreadsFault → Type 0
IsFaultOfEnds q m place JournalFull = q ≡ Full
IsFaultOfEnds q m place (NoMemory p) = (p ≡ place) ⊎ (m ≡ Fault (apply.NoMemory p))
IsFaultOfEnds q m place (NumbersSpent p) = m ≡ Fault (apply.NumbersSpent p)
IsFaultOfEnds q m place (Link fault) = ⊥
IsFaultOfEnds q m place (Spawn k) = ⊥
