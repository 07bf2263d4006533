-- What the entries that were applied give the sessions' writers.
-- Words of the code alone.
use Rattle.std.specs.Prelude.{◌≡◌, ℕ, ◌<◌, ◌≤◌, Bool, true, false, map, List, [], ◌∷◌, ◌++◌, length, slice_index_or}
use Rattle.spread_rules_ids.specs.declared.limits.TheConstants.{SESSIONS}
use Rattle.spread_rules.specs.declared.event.Entry.{Entry}
use Rattle.spread_report_outbound.specs.code.Sessions.{session_text}
use Rattle.gate_link_sessions.specs.Rows.{row}
use Rattle.gate_link_stages.specs.Feeding.{taken, take_ended}
use Rattle.gate_link_stages.specs.Posting.{posted, post_ended, SamePoster}
use Rattle.gate_link_stages.specs.declared.feed.Matcher.{Matcher}
use Rattle.gate_link_stages.specs.declared.post.Poster.{Poster}
use Rattle.apply_desk.specs.code.Applied.{IsApplyFault}
use Rattle.apply_desk.specs.Sending.{HasReportedBehind, sending_rules}
use Rattle.live_matching.specs.declared.posting.PostedEntries.{PostedEntries}
use Rattle.live_matching.specs.declared.step.MatchEnd.{MatchEnd}
use Rattle.live_matching.specs.declared.step.MatchEnd.TheVariants.{Whole, Stopped, Fault}

-- what was given to writer s
abbrev pub posted_at : {A : Type 0} → List (Poster A) → ℕ → List ℕ
posted_at posters s = row posted posters s

-- no end mark was pushed
abbrev pub NoneEnded : {A : Type 0} → List (Poster A) → Type 0
NoneEnded posters = (s : ℕ) → slice_index_or (map post_ended posters) s false ≡ false

-- the same ends of the same rings
abbrev pub SamePosters : {A : Type 0} → List (Poster A) → List (Poster A) → Type 0
SamePosters ps qs =
    (length qs ≡ length ps)
    × ((s : ℕ) (p : Poster _) → s < length ps
    → SamePoster (slice_index_or ps s p) (slice_index_or qs s p))

-- the texts of the sessions that have a writer are empty
abbrev pub AllGiven : {A : Type 0} → List (Poster A) → List (List ℕ) → Type 0
AllGiven posters texts = (s : ℕ) → s < length posters → session_text texts s ≡ []

-- what the texts had was given to the writers, nothing of it twice and nothing lost, and none has any left
abbrev pub HasMoved : {A : Type 0} → Bool → List (Poster A) → List (List ℕ) → List (Poster A)
    → List (List ℕ) → Type 0
HasMoved true ps texts qs left =
    AllGiven qs left
    × ((s : ℕ) → posted_at qs s ++ session_text left s ≡ posted_at ps s ++ session_text texts s)
HasMoved false ps texts qs left = Unit {0}

-- these entries were applied, and what they send was given to the writers, whole and once
pub record HasPosted {A : Type 0} (entries : List Entry) (p : PostedEntries A) : Type 0 where
  pub reported : HasReportedBehind (posted_at p.posters.items) entries p.reported
  pub given : AllGiven p.posters.items p.reported.texts

-- more can be given
pub record CanPost {A : Type 0} (p : PostedEntries A) : Type 0 where
  pub open_ : NoneEnded p.posters.items
  pub few : length p.posters.items ≤ SESSIONS

-- nothing was taken, applied or given
pub record IsUnfed {A : Type 0} (m : Matcher A) (p : PostedEntries A) : Type 0 where
  pub taken_none : taken m ≡ []
  pub not_over : take_ended m ≡ false
  pub posted_none : HasPosted [] p
  pub rings : CanPost p

-- what became of entry e behind others, by how it ended: all that they send was given
abbrev pub StepEnds : {A : Type 0} → MatchEnd → Entry → PostedEntries A → PostedEntries A → Type 0
StepEnds Whole e a b = (es : List Entry) → HasPosted es a → HasPosted (es ++ e ∷ []) b
StepEnds Stopped e a b = Unit {0}
StepEnds (Fault f) e a b =
    (es : List Entry) → HasPosted es a → IsApplyFault (sending_rules a.reported) (es ++ e ∷ []) f
