use Rattle.std.proofs.Common.{◌≡◌, ◌≤◌, ◌+◌, ◌∙◌, refl, sym, ap, subst, List, length, arith, inl, inr, Option, Some, None}
use Rattle.std.specs.Prelude.{IfNone}
use mathlib.Core.List.{IsPrefix}
use Rattle.spread_rules.specs.declared.event.Entry.{Entry}
use Rattle.gate_link.proofs.links.SeveralCalls.{prefix_trans}
use Rattle.gate_link_stages.specs.Feeding.{taken, given, feed_ended}
use Rattle.gate_link_stages.specs.declared.post.Poster.{Poster}
use Rattle.live_sessions.specs.Streams.{IsBeginningWithin}
use Rattle.live_sessions.specs.code.Sequencing.{SequenceEnds}
use Rattle.live_sessions.specs.declared.sequencing.SequenceEnd.{SequenceEnd}
use Rattle.live_day.specs.declared.fault.ThreadsFault.{ThreadsFault}
use Rattle.live_matching.specs.code.Matching.{MatchEnds}
use Rattle.live_matching.specs.code.Posting.{HasPosted, posted_at}
use Rattle.live_matching.specs.declared.step.MatchEnd.{MatchEnd}
use Rattle.live_day.proofs.JoinedParts.{agrees_prefix, agrees_whole, parts_of_front, prefix_short, worked_few, fault_of_day}
use Rattle.live_day.proofs.conclusion.fault_of.Goals as goal
use Rattle.live_day.proofs.conclusion.fault_of.Goals.{After-agree-agreed}

none_found : {P : Type 0} (o : Option ThreadsFault) → ((f : ThreadsFault) → o ≡ Some f → ⊥) → IfNone o P → P
none_found None other h = h
none_found (Some f) other h = absurd (other f refl)

-- of each session, what was taken is a beginning of its stream's events, and there was room for it
took_parts : (g : _) (c : After-agree-agreed g) → IsBeginningWithin c.args.streams.now.value.items c.args.room
    (taken c.args.matched.now.matcher)
took_parts g c =
    let j = c.requires.joined in
    let took = taken c.args.matched.now.matcher in
    let gave = given c.args.sequenced.now.feeder in
    let journal = c.args.sequenced.now.journal.items in
    let front : IsPrefix took gave = agrees_prefix c.agree-agreed.result (feed_ended c.args.sequenced.now.feeder) gave
    took c.agree-agreed.ensures.agree in
    let whole = prefix_trans took gave journal front j.given_on in (
      parts_of_front c.args.streams.now.value.items took journal whole j.parts,
      omega (arith, prefix_short took journal whole, j.size),
    )

-- the place behind the entries that were worked
within_taken : (g : _) (c : After-agree-agreed g)
    → c.args.matched.now.worked + 1 ≤ length (taken c.args.matched.now.matcher) + 1
within_taken g c = omega (
  arith,
  worked_few c.args.matched.now.end c.args.matched.now.worked
      (taken c.args.matched.now.matcher) c.requires.joined.worked,
)

pub returns-in-Some-clause-fault : goal.returns-in-Some-clause-fault
returns-in-Some-clause-fault g c =
    let j = c.requires.joined in
    let q = c.args.sequenced.now in
    let m = c.args.matched.now in
    let at = goal.at.returns-in-Some-clause-fault g c in
    λ ring. fault_of_day c.args.room ring c.args.streams.now.value.items q m (m.worked + 1) j.sequenced
    j.matched (took_parts g at.After-agree-agreed)
    (within_taken g at.After-agree-agreed) c.in-Some.fault c.in-Some.ensures.fault

pub all_finished-requires : goal.all_finished-requires
all_finished-requires g c = rw (c.as_mut_slice.ensures.value) c.requires.joined.posts

pub returns-then-not-all_finished : goal.returns-then-not-all_finished
returns-then-not-all_finished g c =
    let at = goal.at.returns-then-not-all_finished g c in
    record {
      journal = refl;
      reported = refl;
      count = c.all_finished.ensures.count;
      fault = λ ring. inr (
        taken c.args.matched.now.matcher,
        took_parts g at.After-agree-agreed,
        within_taken g at.After-agree-agreed,
      );
      full = λ is. absurd (c.in_default.not-Some _ (c.first_fault.ensures.full is));
      refused = λ apart is. absurd (c.in_default.not-Some _
          (c.first_fault.ensures.refused apart (c.any_refused-refused.ensures ∙ is)));
      place = inl refl;
      whole = tt;
    }

pub returns : goal.returns
returns g c =
    let j = c.requires.joined in
    let took = taken c.args.matched.now.matcher in
    let p = c.args.matched.now.posted in
    let feeder = c.args.sequenced.now.feeder in
    let journal = c.args.sequenced.now.journal.items in
    let ends = none_found c.first_fault.result c.in_default.not-Some c.first_fault.ensures.whole in
    let whole = subst (λ (e : SequenceEnd). SequenceEnds e c.args.room c.args.streams.now.value.items journal feeder)
    ends.0 j.sequenced in
    let all : took ≡ journal = agrees_whole c.agree-agreed.result (feed_ended feeder) (given feeder) took ends.2
    c.agree-agreed.ensures.agree ∙ whole.1 in
    record {
      journal = refl;
      reported = refl;
      count = c.all_finished.ensures.count;
      fault = tt;
      full = λ is. absurd (c.in_default.not-Some _ (c.first_fault.ensures.full is));
      refused = λ apart is. absurd (c.in_default.not-Some _
          (c.first_fault.ensures.refused apart (c.any_refused-refused.ensures ∙ is)));
      place = tt;
      whole = record {
        parts = whole.0;
        posted = subst (λ (es : List Entry). HasPosted es p) all
            (subst (λ (e : MatchEnd). MatchEnds e took p) ends.1 j.matched);
        count = j.posts.0 ∙ sym c.all_finished.ensures.count;
        written = λ s below.
            c.all_finished.ensures.finished c.if-not-all_finished.false s
            (omega (arith, below, c.all_finished.ensures.count))
            ∙ ap (λ (ps : List (Poster g.row.A.Denot)). posted_at ps s) c.as_mut_slice.ensures.value;
      };
    }
