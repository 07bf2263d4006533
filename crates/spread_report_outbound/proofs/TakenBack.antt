-- What is taken back after a refusal: lists are cut to their lengths, and sessions are as before.
use Rattle.std.proofs.Common.{◌≡◌, ◌≢◌, ℕ, ◌+◌, ◌<◌, ◌≤◌, List, [], length, get_or, take, sym, ap, ◌∙◌, inl, inr, arith, refl, Option, None}
use Rattle.std.proofs.Math.ListN.{set}
use Rattle.std.proofs.lemmas.List.{length-set, get_or-map, get_or-set_same, get_or-set_other, ext_get_or, get_or_default}
use Rattle.std.proofs.lemmas.Bool.{cases_eq}
use Rattle.std.specs.declared.vec.Vec.{Vec}
use Rattle.spread_report_outbound.specs.declared.session.OutboundSession.{OutboundSession}
use Rattle.spread_report_outbound.specs.declared.session.CompIds.{CompIds}
use Rattle.spread_report_outbound.specs.code.Steps.{outbound_before_logon}
use Rattle.spread_report_outbound.specs.Sessions.{bytes_of}
use Rattle.spread_report_outbound.specs.code.Sessions.{OutboundState, outbound_at}
use Rattle.spread_report_outbound.specs.code.OutboundFields.{sessions_of}
use Rattle.spread_report_outbound.proofs.OneMessage.{row_same, row_other}
use Rattle.spread_report_outbound.proofs.SessionsOf.{session_of, length-sessions_of, get_or-sessions_of}

module _ {A : Type 0} (x x₀ : List (Vec ℕ A)) (i : ℕ) (v w : Vec ℕ A) (ns : List ℕ) where
  pub cut_more : i < length x → ((t : ℕ) → t < i → bytes_of x t ≡ take (get_or ns t 0) (bytes_of x₀ t))
      → ((t : ℕ) → i ≤ t → bytes_of x t ≡ bytes_of x₀ t)
      → v.items ≡ take (get_or ns i 0) (get_or x i w).items → (t : ℕ) → t < i + 1
      → bytes_of (set x i v) t ≡ take (get_or ns t 0) (bytes_of x₀ t)
  cut_more below cut rest items t h =
      let there : bytes_of x i ≡ (get_or x i w).items = get_or-map (λ (u : Vec ℕ A). u.items) x i w [] below in
      let here : bytes_of (set x i v) i ≡ take (get_or ns i 0) (bytes_of x₀ i) = row_same x i v below
      ∙ (items ∙ ap (λ (l : List ℕ). take (get_or ns i 0) l) (sym there ∙ rest i (omega arith))) in
      elim (cases_eq t i) [ inl e ↦ rw e here | inr apart ↦ row_other x i v t apart ∙ cut t (omega (arith, h, apart)) ]

  pub rest_more : ((t : ℕ) → i ≤ t → bytes_of x t ≡ bytes_of x₀ t) → (t : ℕ) → i + 1 ≤ t
      → bytes_of (set x i v) t ≡ bytes_of x₀ t
  rest_more rest t h =
      let apart : t ≢ i = λ e. omega (arith, h, e) in
      row_other x i v t apart ∙ rest t (omega (arith, h))

module _ {A : Type 0} (x : List (Vec ℕ A)) (i n : ℕ) (w : Vec ℕ A) (ns : List ℕ) where
  pub lengths_more : i < length x → i < length ns → n ≡ length (get_or x i w).items
      → ((t : ℕ) → t < i → get_or ns t 0 ≡ length (bytes_of x t))
      → (t : ℕ) → t < i + 1 → get_or (set ns i n) t 0 ≡ length (bytes_of x t)
  lengths_more below there count done t h =
      let items : bytes_of x i ≡ (get_or x i w).items = get_or-map (λ (u : Vec ℕ A). u.items) x i w [] below in
      let here : get_or (set ns i n) i 0 ≡ length (bytes_of x i) = get_or-set_same ns i n 0 there
      ∙ (count ∙ ap (λ (l : List ℕ). length l) (sym items)) in
      elim (cases_eq t i) [
        | inl e ↦ rw e here
        | inr apart ↦ get_or-set_other ns i t n 0 apart
            ∙ done t (omega (arith, h, apart))
      ]

-- ---- outbound states

-- the sessions are as they were before the entry
pub sessions_back : (a : List OutboundSession) (ns : List ℕ) (os : List (Option CompIds)) (session : ℕ)
    (o : Option CompIds) → length a ≡ 16 → length ns ≡ 16 → length os ≡ 16 → session < 16
    → o ≡ (outbound_at a session).comp_ids
    → ((s : ℕ) → s < 16 → get_or ns s 0 ≡ (outbound_at a s).next)
    → ((s : ℕ) → s < 16 → s ≢ session → get_or os s None ≡ (outbound_at a s).comp_ids)
    → sessions_of ns (set os session o) ≡ a
sessions_back a ns os session o in_a in_ns in_os below is_o numbers others =
    let both : length ns ≡ length (set os session o) = in_ns ∙ sym (length-set os session o ∙ in_os) in
    let next : (s : ℕ) → s < 16 → get_or ns s 1 ≡ (outbound_at a s).next =
    λ s small. get_or_default ns s 1 0 (rw in_ns small) ∙ numbers s small in
    let ids : (s : ℕ) → s < 16 → get_or (set os session o) s None ≡ (outbound_at a s).comp_ids =
    λ s small.
    elim (cases_eq s session) [
      | inl e ↦ rw e (get_or-set_same os session o None (rw in_os below) ∙ is_o)
      | inr apart ↦ get_or-set_other os session s o None apart ∙ others s small apart
    ]
    in
    let size : length (sessions_of ns (set os session o)) ≡ 16 = length-sessions_of ns (set os session o) both
    ∙ in_ns in
    let each : (s : ℕ) → s < 16 → outbound_at (sessions_of ns (set os session o)) s ≡ outbound_at a s =
    λ s small.
    get_or-sessions_of ns (set os session o) s 1 None both
    ∙ (ap (λ (n : ℕ). session_of n (get_or (set os session o) s None)) (next s small)
    ∙ ap (λ (p : Option CompIds). session_of (outbound_at a s).next p) (ids s small))
    in
    ext_get_or (outbound_before_logon 1) (sessions_of ns (set os session o)) a (size ∙ sym in_a)
    (λ i h. each i (omega (arith, h, size)))

-- sessions with the stamp and the states of others are those
pub state_back : (d : OutboundState) (t : List ℕ) (z : List OutboundSession) → t ≡ d.stamp → z ≡ d.sessions
    → record { stamp = t; sessions = z } ≡ d
state_back d t z e f = rw (e, f) refl
