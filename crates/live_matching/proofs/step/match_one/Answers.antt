use Rattle.std.proofs.Common.{◌≡◌, ◌∙◌, ◌≤◌, ◌++◌, ◌∷◌, [], List, sym, ap, subst, arith, length}
use Rattle.std.proofs.lemmas.List.{with_items_is}
use Rattle.std.specs.Vec.{with_items}
use Rattle.gate_link_stages.specs.declared.post.Poster.{Poster}
use Rattle.apply_desk.proofs.HandedOn.{behind_length}
use Rattle.live_matching.specs.code.Posting.{NoneEnded, SamePosters, posted_at}
use Rattle.live_matching.specs.declared.posting.PostedEntries.{PostedEntries}
use Rattle.live_matching.proofs.OneEntryMore.{posted_more}
use Rattle.live_matching.proofs.Posters.{same_posters_refl}
use Rattle.live_matching.proofs.step.match_one.Goals as goal
use Rattle.live_matching.proofs.step.match_one.Goals.{After-post_each}

-- the posters after those that were reached were given their lists
posters : (g : _) (c : After-post_each g) → (with_items c.args.posted.now.posters c.post_each.new.posters).items ≡
    c.post_each.new.posters
posters g c = with_items_is c.args.posted.now.posters c.post_each.new.posters
    (c.post_each.ensures.rings.0 ∙ c.as_mut_slice.ensures.len)

same : (g : _) (c : After-post_each g) → SamePosters c.args.posted.now.posters.items
    (with_items c.args.posted.now.posters c.post_each.new.posters).items
same g c =
    subst (SamePosters c.args.posted.now.posters.items) (sym (posters g c))
    (subst (λ (ps : List (Poster g.row.A.Denot)). SamePosters ps c.post_each.new.posters) c.as_mut_slice.ensures.value
    c.post_each.ensures.rings)

rings : (g : _) (c : After-post_each g) → NoneEnded (with_items c.args.posted.now.posters c.post_each.new.posters).items
    × (length (with_items c.args.posted.now.posters c.post_each.new.posters).items ≤ 16)
rings g c = (
  subst NoneEnded (sym (posters g c)) c.post_each.ensures.open,
  omega (arith, (same g c).0, c.requires.rings.few),
)

pub apply-requires-clause-reported : goal.apply-requires-clause-reported
apply-requires-clause-reported g c = (
  posted_at c.args.posted.now.posters.items,
  (c.requires.posted.0, c.requires.posted.1.reported),
)

pub returns-in-Err-clause-rings : goal.returns-in-Err-clause-rings
returns-in-Err-clause-rings g c = record { open_ = c.requires.rings.open_; few = c.requires.rings.few }

pub returns-in-Err-clause-writers : goal.returns-in-Err-clause-writers
returns-in-Err-clause-writers g c = same_posters_refl c.args.posted.now.posters.items

pub returns-then-not-post_each-clause-rings : goal.returns-then-not-post_each-clause-rings
returns-then-not-post_each-clause-rings g c = let r =
    rings g (goal.at.returns-then-not-post_each-clause-rings g c).After-post_each in record { open_ = r.0; few = r.1 }

pub returns-then-not-post_each-clause-writers : goal.returns-then-not-post_each-clause-writers
returns-then-not-post_each-clause-writers g c = same g
    (goal.at.returns-then-not-post_each-clause-writers g c).After-post_each

pub returns-clause-rings : goal.returns-clause-rings
returns-clause-rings g c = let r = rings g (goal.at.returns-clause-rings g c).After-post_each in
    record { open_ = r.0; few = r.1 }

pub returns-clause-writers : goal.returns-clause-writers
returns-clause-writers g c = same g (goal.at.returns-clause-writers g c).After-post_each

pub post_each-requires-clause-count : goal.post_each-requires-clause-count
post_each-requires-clause-count g c =
    let p = c.args.posted.now in
    let next = c.in_default.ensures.next (posted_at p.posters.items) c.requires.posted.0 c.requires.posted.1.reported in
    let count : length c.apply.new.self.texts ≡ 16 = sym
    (behind_length (posted_at p.posters.items) c.apply.new.self.texts) ∙ next.sent.count in
    omega (arith, count, c.requires.rings.few, ap length c.as_mut_slice.ensures.value)

pub returns-clause-step : goal.returns-clause-step
returns-clause-step g c es was =
    let at = (goal.at.returns-clause-step g c).After-post_each in
    let a = c.args.posted.now in
    let b : PostedEntries g.row.A.Denot = record {
      reported = c.post_each.new.reported;
      posters =
          with_items a.posters c.post_each.new.posters;
    } in
    let next = c.in_default.ensures.next (posted_at a.posters.items) es was.reported in
    posted_more (es ++ c.args.entry.now ∷ []) a b c.apply.new.self c.as_mut_slice.result.now c.post_each.new.posters
    c.as_mut_slice.ensures.value (posters g at)
    next c.post_each.ensures.applied c.post_each.ensures.desk c.post_each.ensures.count c.if-not-post_each.ensures.moved
