-- One more writer's ring, and its ends in one thread again.
use Rattle.std.proofs.Common.{◌≡◌, ◌∙◌, sym, ap, ◌<◌, ◌≤◌, false, List, [], ◌∷◌, ◌++◌, length, get_or, map, inl, inr, arith, length-append}
use Rattle.std.proofs.lemmas.List.{get_or_append_left, get_or_push, get_or_default, get_or-map, get_or_past, length-map}
use Rattle.std.proofs.lemmas.Bool.{cases_lt}
use Rattle.std.specs.declared.thread.PromisedHandle.{PromisedHandle}
use Rattle.gate_link_sessions.proofs.inboxes.OneMore.{snoc_cases}
use Rattle.gate_link_stages.specs.declared.post.Poster.{Poster}
use Rattle.gate_link_stages.specs.declared.post.Writer.{Writer}
use Rattle.gate_link_stages.specs.Posting.{post_ended, ArePostPair, SamePoster, SameWriter}
use Rattle.live_matching.specs.code.Posting.{NoneEnded, SamePosters}
use Rattle.live_writers.specs.code.Writing.{AreJoinedPairs, ArePostPairs, AreWriting, AreWritten}
use Rattle.live_writers.specs.declared.writing.Written.{Written}
use Rattle.live_writers.specs.declared.writing.WritePromise.{WritePromise}

pub posts_snoc : {A : Type 0} (ps : List (Poster A)) (ws : List (Writer A)) (p : Poster A) (w : Writer A)
    → ArePostPairs ps ws → ArePostPair p w → ArePostPairs (ps ++ p ∷ []) (ws ++ w ∷ [])
posts_snoc ps ws p w pairs here =
    let same = pairs.0 in
    let more = length-append ps (p ∷ []) in
    let more' = length-append ws (w ∷ []) in (
      omega arith,
      λ s d e below.
          elim (snoc_cases ws w s below) [
            | inl early ↦
                let early' : s < length ps = omega arith in
                rw (get_or_append_left ps (p ∷ []) d s early', get_or_append_left ws (w ∷ []) e s early)
                (pairs.1 s d e early)
            | inr last ↦ rw (get_or_push ps p d s (same ∙ sym last), get_or_push ws w e s (sym last)) here
          ],
    )

pub open_snoc : {A : Type 0} (ps : List (Poster A)) (p : Poster A) → NoneEnded ps → post_ended p ≡ false
    → NoneEnded (ps ++ p ∷ [])
open_snoc ps p open_ step s =
    elim (cases_lt s (length (ps ++ p ∷ []))) [
      | inl here ↦
          get_or-map post_ended (ps ++ p ∷ []) s p false here
          ∙ elim (snoc_cases ps p s here) [
            | inl early ↦ ap (λ q. post_ended q) (get_or_append_left ps (p ∷ []) p s early)
                ∙ (sym (get_or-map post_ended ps s p false early) ∙ open_ s)
            | inr last ↦ ap (λ q. post_ended q) (get_or_push ps p p s (sym last)) ∙ step
          ]
      | inr past ↦
          let out : length (map post_ended (ps ++ p ∷ [])) ≤ s = rw length-map past in
          get_or_past (map post_ended (ps ++ p ∷ [])) s false out
    ]

pub post_kept : {A : Type 0} (f h : Poster A) (m n : Writer A) → SamePoster f h → SameWriter m n → ArePostPair f m
    → ArePostPair h n
post_kept f h m n sf sm p = (
  sm.0.0 ∙ (p.0 ∙ sym sf.0.0),
  sm.0.1 ∙ (p.1 ∙ sym sf.0.1),
  sm.0.2 ∙ (p.2 ∙ sym sf.0.2),
  sm.0.3 ∙ (p.3 ∙ sym sf.0.3),
)

-- the writers' rings
pub posts_kept : {A : Type 0} (ps qs : List (Poster A)) (ws : List (Writer A))
    (hs : List (PromisedHandle (Written A) (WritePromise A))) (rs : List (Written A))
    → length hs ≡ length ws → length rs ≡ length hs → ArePostPairs ps ws → SamePosters ps qs → AreWriting ws hs
    → AreWritten hs rs → AreJoinedPairs qs rs
posts_kept ps qs [] hs rs lh lr pairs same started kept =
    (same.0 ∙ (pairs.0 ∙ sym (lr ∙ lh)), λ s p w below. absurd (omega (arith, lr, lh)))
posts_kept [] qs (x ∷ ws) hs rs lh lr pairs same started kept = absurd (omega (arith, pairs.0))
posts_kept (y ∷ ps) qs (x ∷ ws) [] rs lh lr pairs same started kept = absurd (omega (arith, lh))
posts_kept (y ∷ ps) qs (x ∷ ws) (z ∷ hs) rs lh lr pairs same started kept = (
  same.0 ∙ (pairs.0 ∙ sym (lr ∙ lh)),
  λ s p w below.
      let in_hs : s < length (z ∷ hs) = rw (← lr) below in
      let in_ws : s < length (x ∷ ws) = rw (← lh) in_hs in
      let in_ps : s < length (y ∷ ps) = rw pairs.0 in_ws in
      let its : (get_or (z ∷ hs) s z).promise.writer.value ≡ get_or (x ∷ ws) s x = started s x z in_hs in
      let kept' : SameWriter (get_or (x ∷ ws) s x) (get_or rs s w).writer = rw (← its) (kept s z w below) in
      let in_qs : s < length qs = rw same.0 in_ps in
      let same' : SamePoster (get_or (y ∷ ps) s y) (get_or qs s p) =
      rw (get_or_default qs s p y in_qs) (same.1 s y in_ps) in
      post_kept (get_or (y ∷ ps) s y) (get_or qs s p) (get_or (x ∷ ws) s x) (get_or rs s w).writer same' kept'
      (pairs.1 s y x in_ws),
)
