-- What the joined parts of a day come to.
use Rattle.std.proofs.Common.{◌≡◌, ◌∙◌, sym, ap, ℕ, ◌+◌, ◌<◌, ◌≤◌, Bool, true, false, List, [], length, get_or, subst, arith, append-nil, length-append, inl, inr, Vec}
use Rattle.std.proofs.Math.ListN.{set}
use Rattle.std.proofs.lemmas.Bool.{cases_eq}
use mathlib.Core.List.{IsPrefix}
use Rattle.spread_rules.specs.declared.event.Entry.{Entry}
use Rattle.spread_rules.specs.Journal.{restricted}
use Rattle.spread_rules_rulebook.specs.Rulebook.{Rules}
use Rattle.gate_link.proofs.links.SeveralCalls.{prefix_trans}
use Rattle.gate_link_sessions.proofs.PartOfASession.{row_other, row_same}
use Rattle.gate_link_sessions.specs.Rows.{row}
use Rattle.spread_rules.proofs.journals.SessionParts.{restricted-append}
use Rattle.gate_link_stages.specs.Feeding.{Agrees, taken}
use Rattle.gate_link_stages.specs.Posting.{Finishes, ArePostPair}
use Rattle.apply_desk.specs.code.Applied.{IsApplyFault}
use Rattle.apply_market.specs.declared.fault.ApplyFault.{ApplyFault}
use Rattle.apply_market.specs.declared.fault.ApplyFault.TheVariants.{NoMemory, NumbersSpent}
use Rattle.live_sessions.specs.Streams.{IsBeginningOf, IsBeginningWithin, whole_at}
use Rattle.live_sessions.specs.code.Sequencing.{SequenceEnds}
use Rattle.live_writers.specs.code.Writing.{AreJoinedPairs}
use Rattle.live_sessions.specs.declared.sequencing.Sequenced.{Sequenced}
use Rattle.live_sessions.specs.declared.sequencing.SequenceEnd.{SequenceEnd}
use Rattle.live_writers.specs.declared.writing.Written.{Written}
use Rattle.gate_link_stages.specs.declared.post.Poster.{Poster}
use Rattle.live_day.specs.Streams.{IsThreadsFault}
use Rattle.live_day.specs.code.Concluding.{IsFaultOfEnds}
use Rattle.live_day.specs.code.Making.{of_apply}
use Rattle.live_matching.specs.code.Matching.{HasWorked, MatchEnds}
use Rattle.live_day.specs.declared.fault.ThreadsFault.{ThreadsFault}
use Rattle.live_day.specs.declared.fault.ThreadsFault.TheVariants as threads
use Rattle.live_matching.specs.declared.turns.Matched.{Matched}
use Rattle.live_matching.specs.declared.step.MatchEnd.{MatchEnd}
use Rattle.live_matching.specs.declared.step.MatchEnd.TheVariants.{Whole, Stopped, Fault}
use Rattle.apply_desk.specs.Sending.{sending_rules}

pub agrees_prefix : (b ended : Bool) (gave took : List Entry) → Agrees b ended gave took → IsPrefix took gave
agrees_prefix true ended gave took h = ([], append-nil took ∙ h.1)
agrees_prefix false ended gave took h = h

pub agrees_whole : (b ended : Bool) (gave took : List Entry) → b ≡ true → Agrees b ended gave took → took ≡ gave
agrees_whole true ended gave took is h = h.1
agrees_whole false ended gave took is h = absurd (cc is)

restricted_prefix : (s : ℕ) (xs ys : List Entry) → IsPrefix xs ys → IsPrefix (restricted s xs) (restricted s ys)
restricted_prefix s xs ys p = (restricted s p.0, sym (restricted-append s xs p.0) ∙ ap (restricted s) p.1)

-- a beginning of the journal has, of each session, a beginning of what the journal has of it
pub parts_of_front : {A : Type 0} (streams : List (Vec ℕ A)) (front journal : List Entry) → IsPrefix front journal
    → IsBeginningOf streams journal → IsBeginningOf streams front
parts_of_front streams front journal pre parts s =
    prefix_trans (restricted s front) (restricted s journal) (whole_at streams s)
    (restricted_prefix s front journal pre) (parts s)

-- a beginning of a list is no longer than it
pub prefix_short : {X : Type 0} (xs ys : List X) → IsPrefix xs ys → length xs ≤ length ys
prefix_short xs ys p = omega (arith, length-append xs p.0, ap length p.1)

-- no more entries were worked through than were taken
pub worked_few : (end : MatchEnd) (worked : ℕ) (took : List Entry) → HasWorked end worked took → worked ≤ length took
worked_few Whole worked took all = omega (arith, all)
worked_few Stopped worked took (inl all) = omega (arith, all)
worked_few Stopped worked took (inr all) = omega (arith, all)
worked_few (Fault f) worked took all = omega (arith, all)

-- the matching thread's fault is one of the day
pub live_fault : {A : Type 0} (rules : Rules) (streams : List (Vec ℕ A)) (ring room : ℕ) (took : List Entry)
    (f : ApplyFault)
    → IsBeginningWithin streams room took → IsApplyFault rules took f
    → IsThreadsFault rules streams ring room (of_apply f)
live_fault rules streams ring room took (NoMemory place) parts is = inr (took, parts, omega (arith, is))
live_fault rules streams ring room took (NumbersSpent place) parts is = (took, parts, is)

-- the matching thread's fault is one of how the two ended
pub fault_named : (q : SequenceEnd) (m : MatchEnd) (place : ℕ) (f : ApplyFault) → m ≡ Fault f
    → IsFaultOfEnds q m place (of_apply f)
fault_named q m place (NoMemory p) is = inr is
fault_named q m place (NumbersSpent p) is = is

-- a fault of how the two ended is one of the day
pub fault_of_day : {A : Type 0} (room ring : ℕ) (streams : List (Vec ℕ A)) (q : Sequenced A) (m : Matched A) (place : ℕ)
    → SequenceEnds q.end room streams q.journal.items q.feeder → MatchEnds m.end (taken m.matcher) m.posted
    → IsBeginningWithin streams room (taken m.matcher)
    → place ≤ length (taken m.matcher) + 1 → (f : ThreadsFault) → IsFaultOfEnds q.end m.end place f
    → IsThreadsFault (sending_rules m.posted.reported) streams ring room f
fault_of_day room ring streams q m place sequenced matched parts within threads.JournalFull is =
    subst (λ (e : SequenceEnd). SequenceEnds e room streams q.journal.items q.feeder) is sequenced
fault_of_day room ring streams q m place sequenced matched parts within (threads.NoMemory p) (inl same) =
    inr (taken m.matcher, parts, omega (arith, same, within))
fault_of_day room ring streams q m place sequenced matched parts within (threads.NoMemory p) (inr is) =
    live_fault (sending_rules m.posted.reported) streams ring room (taken m.matcher) (NoMemory p) parts
    (subst (λ (e : MatchEnd). MatchEnds e (taken m.matcher) m.posted) is matched)
fault_of_day room ring streams q m place sequenced matched parts within (threads.NumbersSpent p) is =
    live_fault (sending_rules m.posted.reported) streams ring room (taken m.matcher) (NumbersSpent p) parts
    (subst (λ (e : MatchEnd). MatchEnds e (taken m.matcher) m.posted) is matched)
fault_of_day room ring streams q m place sequenced matched parts within (threads.Link fault) is = absurd is
fault_of_day room ring streams q m place sequenced matched parts within (threads.Spawn k) is = absurd is

-- two ends that were not looked at yet are of one ring
pub pair_left : {A : Type 0} (ps₀ ps : List (Poster A)) (ws₀ ws : List (Written A)) (i : ℕ) (p : Poster A)
    (w : Written A)
    → AreJoinedPairs ps₀ ws₀ → i < length ws₀ → get_or ps i p ≡ get_or ps₀ i p → get_or ws i w ≡ get_or ws₀ i w
    → ArePostPair (get_or ps i p) (get_or ws i w).writer
pair_left ps₀ ps ws₀ ws i p w pairs here same_p same_w = rw (same_p, same_w) (pairs.1 i p w here)

-- a writer that took its end mark has what was given to it
pub finishes_whole : (b ended : Bool) (gave wrote : List ℕ) → b ≡ true → Finishes b ended gave wrote → wrote ≡ gave
finishes_whole true ended gave wrote is h = h.1
finishes_whole false ended gave wrote is h = absurd (cc is)

-- one more of the rows is alike
pub row_written : {X Y Z : Type 0} (f : X → List Z) (g : Y → List Z) (xs : List X) (ys : List Y) (i : ℕ) (x : X)
    → i < length xs
    → ((s : ℕ) → s < i → row f xs s ≡ row g ys s) → f x ≡ row g ys i → (s : ℕ) → s < i + 1
    → row f (set xs i x) s ≡ row g ys s
row_written f g xs ys i x here done now s below =
    elim (cases_eq s i) [
      | inl e ↦ rw e (row_same f xs i x here ∙ now)
      | inr apart ↦ row_other f xs i x s apart ∙ done s (omega arith)
    ]
