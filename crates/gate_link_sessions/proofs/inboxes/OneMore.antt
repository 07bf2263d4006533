-- One more gateway, and its inbox.
use Rattle.std.proofs.Common.{◌≡◌, ℕ, ◌<◌, ◌≤◌, List, [], ◌∷◌, ◌++◌, ◌⊎◌, length, refl, sym, ap, ◌∙◌, inl, inr, arith, length-append}
use Rattle.std.proofs.lemmas.List.{get_or_append_left, get_or_push}
use Rattle.std.proofs.lemmas.Bool.{cases_lt, cases_eq}
use Rattle.gate_link_sessions.proofs.PartOfASession.{row_at, row_past}
use Rattle.gate_link_sessions.specs.Rows.{row}
use Rattle.gate_link_sessions.specs.Inboxes.{IsInboxOf, ArePairs}
use Rattle.gate_link_sessions.specs.Fresh.{IsFresh, AreFresh}
use Rattle.gate_link_sessions.specs.declared.inbox.Inbox.{Inbox}
use Rattle.gate_link_sessions.specs.declared.gateway.Gateway.{Gateway}

-- none was made yet
pub no_pairs : {A : Type 0} → ArePairs {A = A} [] []
no_pairs = (refl, λ s d e below. absurd (omega (arith, below)))

pub none_fresh : {A : Type 0} (ring : ℕ) → AreFresh {A = A} ring []
none_fresh ring s e below = absurd (omega (arith, below))

-- a place of a list with one more element: an earlier one, or the last
pub snoc_cases : {X : Type 0} (xs : List X) (y : X) (s : ℕ) → s < length (xs ++ y ∷ [])
    → (s < length xs) ⊎ (s ≡ length xs)
snoc_cases xs y s below =
    let sum = length-append xs (y ∷ []) in
    elim (cases_lt s (length xs)) [ inl early ↦ inl early | inr late ↦ inr (omega arith) ]

pub pairs_snoc : {A : Type 0} (ls : List (Inbox A)) (gs : List (Gateway A)) (l : Inbox A) (g : Gateway A)
    → ArePairs ls gs → IsInboxOf l g → ArePairs (ls ++ l ∷ []) (gs ++ g ∷ [])
pairs_snoc ls gs l g pairs here =
    let same = pairs.0 in
    let more = length-append ls (l ∷ []) in
    let more' = length-append gs (g ∷ []) in (
      omega arith,
      λ s d e below.
          elim (snoc_cases ls l s below) [
            | inl early ↦
                let early' : s < length gs = omega arith in
                rw (get_or_append_left ls (l ∷ []) d s early, get_or_append_left gs (g ∷ []) e s early')
                (pairs.1 s d e early)
            | inr last ↦
                rw (get_or_push ls l d s (sym last), get_or_push gs g e s (pairs.0 ∙ sym last)) here
          ],
    )

pub fresh_snoc : {A : Type 0} (ring : ℕ) (gs : List (Gateway A)) (g : Gateway A) → AreFresh ring gs
    → IsFresh ring (length gs) g → AreFresh ring (gs ++ g ∷ [])
fresh_snoc ring gs g all here s e below =
    elim (snoc_cases gs g s below) [
      | inl early ↦ rw (get_or_append_left gs (g ∷ []) e s early) (all s e early)
      | inr last ↦ rw (get_or_push gs g e s (sym last), last) here
    ]

pub idle_snoc : {X Y : Type 0} (f : X → List Y) (xs : List X) (x : X) → ((s : ℕ) → row f xs s ≡ []) → f x ≡ [] → (s : ℕ)
    → row f (xs ++ x ∷ []) s ≡ []
idle_snoc f xs x idle none s =
    let more = length-append xs (x ∷ []) in
    elim (cases_lt s (length xs)) [
      | inl early ↦
          let here : s < length (xs ++ x ∷ []) = omega arith in
          row_at f (xs ++ x ∷ []) s x here ∙ (ap f (get_or_append_left xs (x ∷ []) x s early)
          ∙ (sym (row_at f xs s x early) ∙ idle s))
      | inr late ↦
          elim (cases_eq s (length xs)) [
            | inl last ↦
                let here : s < length (xs ++ x ∷ []) = omega arith in
                row_at f (xs ++ x ∷ []) s x here ∙ (ap f (get_or_push xs x x s (sym last)) ∙ none)
            | inr apart ↦
                let past : length (xs ++ x ∷ []) ≤ s = omega arith in
                row_past f (xs ++ x ∷ []) s past
          ]
    ]
