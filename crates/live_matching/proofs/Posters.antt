-- One poster of several was written.
use Rattle.std.proofs.Common.{◌≡◌, ◌∙◌, sym, ap, refl, ℕ, ◌+◌, ◌<◌, ◌≤◌, false, List, [], ◌++◌, length, get_or, map, inl, inr, arith, take, drop, append_assoc, ◌-◌, append-nil}
use Rattle.std.proofs.Math.Seq.{take-add, take-length}
use Rattle.std.proofs.lemmas.List.{length-drop, length-set, map-set, get_or-map, get_or-set_other, get_or-set_same, get_or_default, length-map}
use Rattle.std.proofs.Math.ListN.{set}
use Rattle.std.proofs.lemmas.Bool.{cases_eq}
use Rattle.gate_link_stages.specs.declared.post.Poster.{Poster}
use Rattle.gate_link_stages.specs.Posting.{posted, post_ended, SamePoster}
use Rattle.gate_link_sessions.proofs.PartOfASession.{row_at, row_same, row_other}
use Rattle.spread_report_outbound.specs.code.Sessions.{session_text}
use Rattle.live_matching.specs.code.Posting.{posted_at, NoneEnded, SamePosters}

pub same_poster_trans : {A : Type 0} (a b d : Poster A) → SamePoster a b → SamePoster b d → SamePoster a d
same_poster_trans a b d p q = ((q.0.0 ∙ p.0.0, q.0.1 ∙ p.0.1, q.0.2 ∙ p.0.2, q.0.3 ∙ p.0.3), q.1 ∙ p.1)

pub same_poster_refl : {A : Type 0} (a : Poster A) → SamePoster a a
same_poster_refl a = ((refl, refl, refl, refl), refl)

pub same_posters_refl : {A : Type 0} (ps : List (Poster A)) → SamePosters ps ps
same_posters_refl ps = (refl, λ s p below. same_poster_refl (get_or ps s p))

pub same_posters_trans : {A : Type 0} (ps qs rs : List (Poster A)) → SamePosters ps qs → SamePosters qs rs
    → SamePosters ps rs
same_posters_trans ps qs rs a b = (
  b.0 ∙ a.0,
  λ s p below.
      let there : s < length qs = rw a.0 below in
      same_poster_trans (get_or ps s p) (get_or qs s p) (get_or rs s p) (a.1 s p below) (b.1 s p there),
)

-- the same rings, after one more was written
pub same_set : {A : Type 0} (ps qs : List (Poster A)) (i : ℕ) (d q : Poster A) → i < length qs → SamePosters ps qs
    → SamePoster (get_or qs i d) q → SamePosters ps (set qs i q)
same_set ps qs i d q here same step = (
  length-set qs i q ∙ same.0,
  λ s p below.
      elim (cases_eq s i) [
        | inl e ↦
            let there : i < length ps = rw (← same.0) here in
            let were = same.1 i p there in
            let is : get_or qs i d ≡ get_or qs i p = get_or_default qs i d p here in
            rw (e, get_or-set_same qs i q p here) (same_poster_trans (get_or ps i p) (get_or qs i p) q were
            (rw (← is) step))
        | inr apart ↦ rw (get_or-set_other qs i s q p apart) (same.1 s p below)
      ],
)

pub open_set : {A : Type 0} (qs : List (Poster A)) (i : ℕ) (q : Poster A) → i < length qs → NoneEnded qs
    → post_ended q ≡ false → NoneEnded (set qs i q)
open_set qs i q here open_ step s =
    elim (cases_eq s i) [
      | inl e ↦
          let here' : i < length (map post_ended qs) = rw length-map here in
          rw e (ap (λ ys. get_or ys i false) (map-set post_ended qs i q)
          ∙ (get_or-set_same (map post_ended qs) i (post_ended q) false here' ∙ step))
      | inr apart ↦ ap (λ ys. get_or ys s false) (map-set post_ended qs i q)
          ∙ (get_or-set_other (map post_ended qs) i s (post_ended q) false apart ∙ open_ s)
    ]

-- none of these is ended
pub open_at : {A : Type 0} (qs : List (Poster A)) (i : ℕ) (d : Poster A) → i < length qs → NoneEnded qs
    → post_ended (get_or qs i d) ≡ false
open_at qs i d here open_ = sym (get_or-map post_ended qs i d false here) ∙ open_ i

-- one writer was given its text, which is now empty
pub moved_set : {A : Type 0} (ps : List (Poster A)) (texts : List (List ℕ)) (all : ℕ → List ℕ) (i : ℕ) (d q : Poster A)
    → i < length ps → i < length texts
    → posted q ≡ posted (get_or ps i d) ++ session_text texts i
    → ((s : ℕ) → posted_at ps s ++ session_text texts s ≡ all s)
    → (s : ℕ) → posted_at (set ps i q) s ++ session_text (set texts i []) s ≡ all s
moved_set ps texts all i d q here low step was s =
    elim (cases_eq s i) [
      | inl e ↦
          rw e
          (ap (λ (t : List ℕ). t ++ session_text (set texts i []) i)
          (row_same posted ps i q here ∙ (step ∙ ap (λ (t : List ℕ). t ++ session_text texts i)
          (sym (row_at posted ps i d here))))
          ∙ (ap (λ (t : List ℕ). (posted_at ps i ++ session_text texts i) ++ t) (get_or-set_same texts i [] [] low)
          ∙ (append-nil (posted_at ps i ++ session_text texts i) ∙ was i)))
      | inr apart ↦
          ap (λ (t : List ℕ). t ++ session_text (set texts i []) s) (row_other posted ps i q s apart)
          ∙ (ap (λ (t : List ℕ). posted_at ps s ++ t) (get_or-set_other texts i s [] [] apart) ∙ was s)
    ]

-- the texts up to this one are empty
pub empty_set : (texts : List (List ℕ)) (i : ℕ) → i < length texts → ((s : ℕ) → s < i → session_text texts s ≡ [])
    → (s : ℕ) → s < i + 1 → session_text (set texts i []) s ≡ []
empty_set texts i low done s below =
    elim (cases_eq s i) [
      | inl e ↦ rw e (get_or-set_same texts i [] [] low)
      | inr apart ↦ get_or-set_other texts i s [] [] apart ∙ done s (omega arith)
    ]

-- a slice to the end is what is left
pub tail_is : {X : Type 0} (bytes : List X) (i : ℕ) → take (length bytes - i) (drop i bytes) ≡ drop i bytes
tail_is bytes i = ap (λ n. take n (drop i bytes)) (sym (length-drop i bytes)) ∙ take-length (drop i bytes)

-- a piece more of these bytes
pub pieces_join : {X : Type 0} (xs ys zs bytes rest : List X) (i k : ℕ) → i ≤ length bytes → rest ≡ drop i bytes
    → k ≤ length rest → ys ≡ xs ++ take i bytes → zs ≡ ys ++ take k rest → zs ≡ xs ++ take (i + k) bytes
pieces_join xs ys zs bytes rest i k within left few was now =
    now ∙ (ap (λ t. t ++ take k rest) was ∙ (append_assoc xs (take i bytes) (take k rest)
    ∙ ap (λ t. xs ++ t) (ap (λ t. take i bytes ++ take k t) left ∙ sym (take-add i k bytes))))
