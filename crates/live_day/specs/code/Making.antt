-- What a day in threads is made of before any thread is started, and why it is not made.
-- Words of the code alone.
use Rattle.std.specs.Prelude.{◌≡◌, ℕ, [], length}
use Rattle.gate_link.specs.Links.{IsLinkOf, room_of}
use Rattle.gate_link.specs.Opening.{IsRefusal}
use Rattle.gate_link_sessions.specs.Fresh.{AreFresh}
use Rattle.gate_link_stages.specs.Feeding.{given, AreFeedPair}
use Rattle.apply_market.specs.declared.fault.ApplyFault.{ApplyFault}
use Rattle.apply_market.specs.declared.fault.ApplyFault.TheVariants as apply
use Rattle.live_writers.specs.code.Writing.{ArePostPairs}
use Rattle.live_matching.specs.code.Posting.{IsUnfed}
use Rattle.live_day.specs.declared.fault.ThreadsFault.{ThreadsFault}
use Rattle.live_day.specs.declared.fault.ThreadsFault.TheVariants.{Link, NoMemory, NumbersSpent}
use Rattle.live_day.specs.declared.stages.Stages.{Stages}

-- the stages of a day that has not begun
pub record IsMade {A : Type 0} (ring : ℕ) (stages : Stages A) : Type 0 where
  pub fresh : AreFresh ring stages.gateways.items
  pub pairs : IsLinkOf stages.sequencer stages.gateways.items
  pub room : room_of stages.sequencer ≡ stages.room
  pub feed : AreFeedPair stages.feeder stages.matcher
  pub given_none : given stages.feeder ≡ []
  pub unfed : IsUnfed stages.matcher stages.posted
  pub posts : ArePostPairs stages.posted.posters.items stages.writers.items
  pub writer_count : length stages.writers.items ≡ length stages.gateways.items

-- why there are none
abbrev pub IsStagesFault : ℕ → ℕ → ℕ → ThreadsFault → Type 0
IsStagesFault sessions ring journal (Link fault) = IsRefusal fault sessions ring journal
IsStagesFault sessions ring journal (NoMemory place) = place ≡ 0
IsStagesFault sessions ring journal _ = ⊥

-- the fault of the day whose matching thread had this one
abbrev pub of_apply : ApplyFault → ThreadsFault
of_apply (apply.NoMemory place) = NoMemory place
of_apply (apply.NumbersSpent place) = NumbersSpent place
