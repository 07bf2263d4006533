use Rattle.std.proofs.Common.{◌≡◌, ◌∙◌, ℕ, ◌+◌, refl, sym, ap, subst, inl, inr, List, [], ◌∷◌, length, length-append, arith}
use Rattle.std.proofs.lemmas.List.{with_items_is}
use Rattle.std.specs.Vec.{with_items}
use Rattle.spread_rules.specs.declared.event.Entry.{Entry}
use Rattle.gate_link_stages.specs.Feeding.{taken, taken_of, Takes, SameMatcher}
use Rattle.gate_link_stages.specs.declared.feed.Lent.{Lent}
use Rattle.gate_link_stages.specs.declared.feed.Lent.TheVariants.{Entry as LentEntry, Ended as LentEnd}
use Rattle.gate_link_stages.specs.declared.post.Poster.{Poster}
use Rattle.live_matching.specs.code.Matching.{HasWorked, MatchEnds}
use Rattle.live_matching.specs.code.Posting.{HasPosted, SamePosters, posted_at}
use Rattle.live_matching.specs.declared.posting.PostedEntries.{PostedEntries}
use Rattle.live_matching.specs.declared.step.MatchEnd.{MatchEnd}
use Rattle.live_matching.specs.declared.step.MatchEnd.TheVariants.{Whole, Stopped, Fault}
use Rattle.live_matching.proofs.Posters.{same_posters_trans}
use Rattle.live_matching.proofs.OneEntryMore.{posted_still}
use Rattle.live_matching.proofs.RingEnds.{same_matcher_trans, step_ends}
use Rattle.live_matching.proofs.turns.match_all.Goals as goal
use Rattle.live_matching.proofs.turns.match_all.Goals.{After-lend, After-match_one}

ring : (g : _) (c : After-lend g) → SameMatcher c.args.matcher.now c.lend.follows.lender-at-none
ring g c = same_matcher_trans c.args.matcher.now c.loop.matcher c.lend.follows.lender-at-none c.loop.invariant.ring
    c.lend.follows.holds-at-none.0

-- What lending did, where this was its answer.
took_by : (g : _) (c : After-lend g) (r : Lent) → c.lend.result ≡ r
    → Takes (taken_of r) c.loop.matcher c.lend.follows.lender-at-none
took_by g c r is = subst (λ (t : Lent). Takes (taken_of t) c.loop.matcher c.lend.follows.lender-at-none) is
    c.lend.follows.holds-at-none.1

-- where the last entry that was taken did not come to its end, all but that one were worked through
worked_but_last : (end : MatchEnd) (worked : ℕ) (took : List Entry) → (end ≡ Whole → ⊥) → worked + 1 ≡ length took
    → HasWorked end worked took
worked_but_last Whole worked took not all = absurd (not refl)
worked_but_last Stopped worked took not all = inr all
worked_but_last (Fault f) worked took not all = all

writers : (g : _) (c : After-match_one g) → SamePosters c.args.posted.now.posters.items
    c.match_one.new.posted.posters.items
writers g c = same_posters_trans c.args.posted.now.posters.items c.loop.posted.posters.items
    c.match_one.new.posted.posters.items c.loop.invariant.writers c.match_one.ensures.writers

pub loop-preserved-in-Whole : goal.loop-preserved-in-Whole
loop-preserved-in-Whole g c =
    let took = took_by g (goal.at.loop-preserved-in-Whole g c).After-lend (LentEntry c.in-Entry.entry) c.in-Entry.is in
    let was = c.loop.invariant in
    let next = c.in-Whole.ensures.step (taken c.loop.matcher) was.posted in
    let now : HasPosted (taken c.lend.follows.lender-at-none) c.match_one.new.posted =
    subst (λ (es : List Entry). HasPosted es c.match_one.new.posted) (sym took.1) next in
    record {
      ring = ring g (goal.at.loop-preserved-in-Whole g c).After-lend;
      writers = writers g (goal.at.loop-preserved-in-Whole g c).After-match_one;
      rules = c.match_one.ensures.rules ∙ was.rules;
      stamp = c.match_one.ensures.stamp ∙ was.stamp;
      posted = now;
      rings = c.match_one.ensures.rings;
      worked = c.count-worked.ensures ∙ now.reported.applied.count;
      running = took.2;
    }

pub returns-in_default : goal.returns-in_default
returns-in_default g c =
    let took = took_by g (goal.at.returns-in_default g c).After-lend (LentEntry c.in-Entry.entry) c.in-Entry.is in
    let was = c.loop.invariant in
    let es = taken c.loop.matcher in
    let ends = step_ends c.match_one.result es c.in-Entry.entry.now c.loop.posted c.match_one.new.posted
    c.match_one.ensures.rules c.match_one.ensures.step was.posted in
    record {
      ring = ring g (goal.at.returns-in_default g c).After-lend;
      writers = writers g (goal.at.returns-in_default g c).After-match_one;
      rules = c.match_one.ensures.rules ∙ was.rules;
      stamp = c.match_one.ensures.stamp ∙ was.stamp;
      worked = worked_but_last c.match_one.result c.loop.worked (taken c.lend.follows.lender-at-none)
          c.in_default.not-Whole (omega (
            arith,
            was.worked,
            ap length took.1,
            length-append es (c.in-Entry.entry.now ∷ []),
          ));
      ends = subst (λ (xs : List Entry). MatchEnds c.match_one.result xs c.match_one.new.posted) (sym took.1) ends;
    }

pub returns-then-load : goal.returns-then-load
returns-then-load g c =
    let was = c.loop.invariant in
    record {
      ring = was.ring;
      writers = was.writers;
      rules = was.rules;
      stamp = was.stamp;
      worked = inl was.worked;
      ends = tt;
    }

pub returns-in-Ended : goal.returns-in-Ended
returns-in-Ended g c =
    let took = took_by g (goal.at.returns-in-Ended g c).After-lend LentEnd c.in-Ended.is in
    let was = c.loop.invariant in
    let old = c.loop.posted.posters in
    let new = c.end_each.new.posters in
    let p : PostedEntries g.row.A.Denot = record { reported = c.loop.posted.reported; posters = with_items old new } in
    let value = c.as_mut_slice.ensures.value in
    let is : (with_items old new).items ≡ new = with_items_is old new
    (c.end_each.ensures.rings.0 ∙ c.as_mut_slice.ensures.len) in
    let same : SamePosters old.items new = subst (λ (ps : List (Poster g.row.A.Denot)). SamePosters ps new) value
    c.end_each.ensures.rings in
    let all : SamePosters c.args.posted.now.posters.items (with_items old new).items =
    subst (SamePosters c.args.posted.now.posters.items) (sym is)
    (same_posters_trans c.args.posted.now.posters.items old.items new was.writers same) in
    let now : HasPosted (taken c.loop.matcher) p =
    posted_still (taken c.loop.matcher) c.loop.posted p was.posted refl (ap length is ∙ same.0)
    (λ s. ap (λ (ps : List (Poster g.row.A.Denot)). posted_at ps s) is
    ∙ (c.end_each.ensures.posted s ∙ ap (λ (ps : List (Poster g.row.A.Denot)). posted_at ps s) value)) in
    record {
      ring = ring g (goal.at.returns-in-Ended g c).After-lend;
      writers = all;
      rules = was.rules;
      stamp = was.stamp;
      worked = was.worked ∙ sym (ap length took.0);
      ends = subst (λ (es : List Entry). HasPosted es p) (sym took.0) now;
    }
