use Rattle.std.proofs.Common.{◌≡◌, ◌∙◌, refl, sym, ap, subst, ◌<◌, ◌≤◌, ◌+◌, ℕ, Bool, true, false, [], List, length, arith, slice_set, ◌++◌, get_or, nat_lt}
use Rattle.std.proofs.lemmas.Bool.Decides.{nat_tests}
use Rattle.std.proofs.lemmas.List.{length-set}
use Rattle.spread_report_outbound.specs.code.Sessions.{session_text}
use Rattle.gate_link_stages.specs.Posting.{posted}
use Rattle.live_matching.specs.code.Posting.{NoneEnded, SamePosters, posted_at}
use Rattle.live_matching.proofs.Posters.{same_set, open_set, open_at, moved_set, empty_set}
use Rattle.live_matching.proofs.posting.post_each.Goals as goal
use Rattle.live_matching.proofs.posting.post_each.Goals.{After-post_all}

below_or_not : (P : ℕ → Type 0) (m n s : ℕ) (b : Bool) → nat_lt s m ≡ b → ((k : ℕ) → k < m → P k)
    → ((k : ℕ) → m ≤ k → k < n → P k) → s < n → P s
below_or_not P m n s true e low high lt = low s (grind (arith, nat_tests))
below_or_not P m n s false e low high lt = high s (grind (arith, nat_tests)) lt

-- what holds below a number, and from there to another, holds below that one
passed : (P : ℕ → Type 0) (m n : ℕ) → ((k : ℕ) → k < m → P k) → ((k : ℕ) → m ≤ k → k < n → P k) → (s : ℕ) → s < n → P s
passed P m n low high s lt = below_or_not P m n s (nat_lt s m) refl low high lt

pub post_all-requires : goal.post_all-requires
post_all-requires g c =
    let in_posters : c.loop-s.s < length c.loop-s.posters = omega (arith, c.loop-s-test.true, c.loop-s.auto.posters) in
    open_at c.loop-s.posters c.loop-s.s c.index-posters-s.result in_posters c.loop-s.invariant.open_

here : (g : _) (c : After-post_all g) → c.loop-s.s < length c.loop-s.posters
here g c = omega (arith, c.loop-s-test.true, c.loop-s.auto.posters)

same : (g : _) (c : After-post_all g) → SamePosters c.args.posters.now
    (slice_set c.loop-s.posters c.loop-s.s c.post_all.new.poster)
same g c = same_set c.args.posters.now c.loop-s.posters c.loop-s.s c.index-posters-s.result c.post_all.new.poster
    (here g c) c.loop-s.invariant.same c.post_all.ensures.ring

open_ : (g : _) (c : After-post_all g) → NoneEnded (slice_set c.loop-s.posters c.loop-s.s c.post_all.new.poster)
open_ g c = open_set c.loop-s.posters c.loop-s.s c.post_all.new.poster (here g c) c.loop-s.invariant.open_
    c.post_all.ensures.open

pub returns-then-not-post_all-clause-rings : goal.returns-then-not-post_all-clause-rings
returns-then-not-post_all-clause-rings g c = same g (goal.at.returns-then-not-post_all-clause-rings g c).After-post_all

pub returns-then-not-post_all-clause-open : goal.returns-then-not-post_all-clause-open
returns-then-not-post_all-clause-open g c = open_ g (goal.at.returns-then-not-post_all-clause-open g c).After-post_all

pub loop-s-preserved : goal.loop-s-preserved
loop-s-preserved g c =
    let at = (goal.at.loop-s-preserved g c).After-post_all in
    let was = c.loop-s.invariant in
    let ps = c.loop-s.posters in
    let i = c.loop-s.s in
    let q = c.post_all.new.poster in
    let d = c.index-posters-s.result in
    let texts = c.loop-s.reported.texts in
    let low : i < length texts = omega (arith, here g at, was.same.0, was.count, c.requires.count) in
    let step : posted q ≡ posted (get_or ps i d) ++ session_text texts i =
    c.post_all.ensures.whole c.if-not-post_all.false ∙ ap (λ (t : List ℕ). posted (get_or ps i d) ++ t) c.bytes.ensures
    in
    let left = sym c.clear.ensures.texts in
    let emptied = subst (λ (ts : List (List ℕ)). (s : ℕ) → s < i + 1 → session_text ts s ≡ []) left
    (empty_set texts i low was.done) in
    record {
      same = same g at;
      open_ = open_ g at;
      applied = c.clear.ensures.applied ∙ was.applied;
      desk = c.clear.ensures.desk ∙ was.desk;
      count = ap length c.clear.ensures.texts ∙ (length-set texts i [] ∙ was.count);
      done = λ s below. passed (λ k. session_text c.clear.new.self.texts k ≡ []) (i + 1) c.next_sent-s-in-loop-s.result
          emptied c.next_sent-s-in-loop-s.ensures.skipped s below;
      moved =
          subst (λ (ts : List (List ℕ)). (s : ℕ) → posted_at (slice_set ps i q) s
          ++ session_text ts s ≡ posted_at c.args.posters.now s ++ session_text c.args.reported.now.texts s) left
          (moved_set ps texts (λ s. posted_at c.args.posters.now s ++ session_text c.args.reported.now.texts s) i d q
          (here g at) low step was.moved);
    }
