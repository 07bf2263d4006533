-- The ends of a day's rings before any thread is started, and once all threads run.
-- Words of the code alone.
use Rattle.std.specs.Prelude.{◌≡◌, ℕ, ◌+◌, ◌≤◌, List, [], length, Vec, vec_len, vec_capacity}
use Rattle.spread_rules_ids.specs.declared.limits.TheConstants.{SESSIONS}
use Rattle.gate_link.specs.Links.{room_of}
use Rattle.gate_link_stages.specs.Feeding.{given, AreFeedPair}
use Rattle.gate_link_stages.specs.declared.post.Writer.{Writer}
use Rattle.live_sessions.specs.code.Sequencing.{AreStaffed}
use Rattle.live_writers.specs.code.Writing.{ArePostPairs, AreWriting}
use Rattle.live_day.specs.code.Making.{IsMade}
use Rattle.live_day.specs.declared.stages.Stages.{Stages}
use Rattle.live_day.specs.declared.fault.ThreadsFault.{ThreadsFault}
use Rattle.live_day.specs.declared.fault.ThreadsFault.TheVariants.{Spawn, NoMemory}
use Rattle.live_day.specs.declared.starting.RunningDay.{RunningDay}

-- the stages of a day that has not begun, one for each of these streams
pub record AreReady {A : Type 0} (streams : List (Vec ℕ A)) (stages : Stages A) : Type 0 where
  pub ring : ℕ
  pub made : IsMade ring stages
  pub stream_count : length stages.gateways.items ≡ length streams
  pub few : length streams ≤ SESSIONS

-- each session's thread runs with its stream, the matching thread with its end of the ring from the sequencer, and each
-- session's writer with its end of the ring from the matching thread
pub record IsRunning {A : Type 0} (room : ℕ) (streams : List (Vec ℕ A)) (r : RunningDay A) : Type 0 where
  pub staffed : AreStaffed r.sequencer streams r.workers.handles.items
  pub journal_room : room_of r.sequencer ≡ room
  pub given_none : given r.feeder ≡ []
  pub feed : AreFeedPair r.feeder r.matching.promise.matcher.value
  pub writers : List (Writer A)
  pub posts : ArePostPairs r.matching.promise.posted.value.posters.items writers
  pub writing : AreWriting writers r.writing.handles.items
  pub writing_count : length r.writing.handles.items ≡ length writers
  pub few : length writers ≤ SESSIONS
  pub gateways_back : (vec_len r.workers.room ≡ 0) × (vec_len r.workers.handles ≤ vec_capacity r.workers.room)
  pub writers_back : (vec_len r.writing.room ≡ 0) × (vec_len r.writing.handles ≤ vec_capacity r.writing.room)

-- why not all threads of so many sessions run: no memory for their handles, or one that could not be started
abbrev pub IsStartFault : ℕ → ThreadsFault → Type 0
IsStartFault sessions (NoMemory place) = place ≡ 0
IsStartFault sessions (Spawn k) = k ≤ sessions + sessions
IsStartFault sessions _ = ⊥
