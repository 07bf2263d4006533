-- What the matching thread hands back.
-- Words of the code alone.
use Rattle.std.specs.Prelude.{◌≡◌, ℕ, ◌+◌, ◌⊎◌, List, length}
use Rattle.spread_rules.specs.declared.event.Entry.{Entry}
use Rattle.gate_link_stages.specs.Feeding.{taken, SameMatcher}
use Rattle.gate_link_stages.specs.declared.feed.Matcher.{Matcher}
use Rattle.apply_desk.specs.code.Applied.{IsApplyFault}
use Rattle.apply_desk.specs.Sending.{sending_rules, stamp_of}
use Rattle.live_matching.specs.code.Posting.{HasPosted, SamePosters}
use Rattle.live_matching.specs.declared.turns.Matched.{Matched}
use Rattle.live_matching.specs.declared.step.MatchEnd.{MatchEnd}
use Rattle.live_matching.specs.declared.step.MatchEnd.TheVariants.{Whole, Stopped, Fault}
use Rattle.live_matching.specs.declared.posting.PostedEntries.{PostedEntries}

-- what the entries that were taken came to, by how it ended
abbrev pub MatchEnds : {A : Type 0} → MatchEnd → List Entry → PostedEntries A → Type 0
MatchEnds Whole took p = HasPosted took p
MatchEnds Stopped took p = Unit {0}
MatchEnds (Fault f) took p = IsApplyFault (sending_rules p.reported) took f

-- how many of the entries that were taken were worked through, by how it ended: all of them, or all but the last
abbrev pub HasWorked : MatchEnd → ℕ → List Entry → Type 0
HasWorked Whole worked took = worked ≡ length took
HasWorked Stopped worked took = (worked ≡ length took) ⊎ (worked + 1 ≡ length took)
HasWorked (Fault f) worked took = worked + 1 ≡ length took

-- the same ends of the same rings, under the same rulebook and stamp, and what the entries came to
pub record HasMatched {A : Type 0} (m : Matcher A) (p : PostedEntries A) (r : Matched A) : Type 0 where
  pub ring : SameMatcher m r.matcher
  pub writers : SamePosters p.posters.items r.posted.posters.items
  pub rules : sending_rules r.posted.reported ≡ sending_rules p.reported
  pub stamp : stamp_of r.posted.reported ≡ stamp_of p.reported
  pub worked : HasWorked r.end r.worked (taken r.matcher)
  pub ends : MatchEnds r.end (taken r.matcher) r.posted
