use Rattle.std.proofs.Common.{◌≡◌, ◌∙◌, sym, ◌<◌, ℕ, length, arith, slice_set}
use Rattle.gate_link_stages.specs.Posting.{posted}
use Rattle.gate_link_sessions.proofs.PartOfASession.{row_at, row_kept}
use Rattle.live_matching.specs.code.Posting.{posted_at, SamePosters}
use Rattle.live_matching.proofs.Posters.{same_set}
use Rattle.live_matching.proofs.posting.end_each.Goals as goal
use Rattle.live_matching.proofs.posting.end_each.Goals.{After-end_one}

here : (g : _) (c : After-end_one g) → c.loop-s.s < length c.loop-s.posters
here g c = omega (arith, c.loop-s-test.true, c.loop-s.auto.posters)

same : (g : _) (c : After-end_one g) → SamePosters c.args.posters.now
    (slice_set c.loop-s.posters c.loop-s.s c.end_one.new.poster)
same g c = same_set c.args.posters.now c.loop-s.posters c.loop-s.s c.index-posters-s.result c.end_one.new.poster
    (here g c) c.loop-s.invariant.same c.end_one.ensures.ring

gave : (g : _) (c : After-end_one g) (s : ℕ) → posted_at (slice_set c.loop-s.posters c.loop-s.s c.end_one.new.poster) s
    ≡ posted_at c.args.posters.now s
gave g c s =
    let ps = c.loop-s.posters in
    let i = c.loop-s.s in
    let d = c.index-posters-s.result in
    row_kept posted ps i c.end_one.new.poster (here g c)
    (c.end_one.ensures.posted ∙ sym (row_at posted ps i d (here g c))) s ∙ c.loop-s.invariant.gave s

pub returns-then-not-end_one-clause-rings : goal.returns-then-not-end_one-clause-rings
returns-then-not-end_one-clause-rings g c = same g (goal.at.returns-then-not-end_one-clause-rings g c).After-end_one

pub returns-then-not-end_one-clause-posted : goal.returns-then-not-end_one-clause-posted
returns-then-not-end_one-clause-posted g c = gave g (goal.at.returns-then-not-end_one-clause-posted g c).After-end_one

pub loop-s-preserved : goal.loop-s-preserved
loop-s-preserved g c =
    let c = (goal.at.loop-s-preserved g c).After-end_one in
    record { same = same g c; gave = gave g c }
