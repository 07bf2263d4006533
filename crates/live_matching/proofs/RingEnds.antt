-- The two ends of the ring to the matching thread, and what each side hands back.
use Rattle.std.proofs.Common.{◌≡◌, ◌∙◌, sym, subst, List, [], ◌∷◌, ◌++◌}
use Rattle.spread_rules.specs.declared.event.Entry.{Entry}
use Rattle.gate_link_stages.specs.Feeding.{AreFeedPair, SameFeeder, SameMatcher}
use Rattle.gate_link_stages.specs.declared.feed.Feeder.{Feeder}
use Rattle.gate_link_stages.specs.declared.feed.Matcher.{Matcher}
use Rattle.apply_desk.specs.code.Applied.{IsApplyFault}
use Rattle.spread_rules_rulebook.specs.Rulebook.{Rules}
use Rattle.apply_desk.specs.Sending.{sending_rules}
use Rattle.live_matching.specs.code.Posting.{HasPosted, StepEnds}
use Rattle.live_matching.specs.declared.posting.PostedEntries.{PostedEntries}
use Rattle.live_matching.specs.code.Matching.{MatchEnds}
use Rattle.live_matching.specs.declared.step.MatchEnd.{MatchEnd}
use Rattle.live_matching.specs.declared.step.MatchEnd.TheVariants.{Whole, Stopped, Fault}

pub same_matcher_trans : {A : Type 0} (a b d : Matcher A) → SameMatcher a b → SameMatcher b d → SameMatcher a d
same_matcher_trans a b d p q = ((q.0.0 ∙ p.0.0, q.0.1 ∙ p.0.1, q.0.2 ∙ p.0.2, q.0.3 ∙ p.0.3), q.1 ∙ p.1)

pub feed_kept : {A : Type 0} (f h : Feeder A) (m n : Matcher A) → SameFeeder f h → SameMatcher m n → AreFeedPair f m
    → AreFeedPair h n
feed_kept f h m n sf sm p = (
  sm.0.0 ∙ (p.0 ∙ sym sf.0.0),
  sm.0.1 ∙ (p.1 ∙ sym sf.0.1),
  sm.0.2 ∙ (p.2 ∙ sym sf.0.2),
  sm.0.3 ∙ (p.3 ∙ sym sf.0.3),
)

-- the matching side: the entry at hand, by how it ended
pub step_ends : {A : Type 0} (end : MatchEnd) (es : List Entry) (e : Entry) (a b : PostedEntries A)
    → sending_rules b.reported ≡ sending_rules a.reported
    → StepEnds end e a b → HasPosted es a → MatchEnds end (es ++ e ∷ []) b
step_ends Whole es e a b rules step was = step es was
step_ends Stopped es e a b rules step was = tt
step_ends (Fault f) es e a b rules step was = subst (λ (r : Rules). IsApplyFault r (es ++ e ∷ []) f) (sym rules)
    (step es was)
