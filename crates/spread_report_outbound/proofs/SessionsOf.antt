-- Sessions of which the numbers stand in one list and the CompIDs in another.
use Rattle.std.proofs.Common.{◌≡◌, ℕ, suc, zero, ◌<◌, List, [], ◌∷◌, length, get_or, refl, sym, ap, ◌∙◌, inl, inr, Option, None}
use Rattle.std.specs.Prelude.{◌==◌, if◌then◌else◌}
use Rattle.std.proofs.Math.ListN.{set}
use Rattle.std.proofs.lemmas.Bool.{cases_eq, eq-eqb, ne_eqb}
use Rattle.std.proofs.lemmas.List.{length-set, get_or_default, get_or-set_same, get_or-set_other}
use Rattle.spread_report_outbound.specs.declared.session.OutboundSession.{OutboundSession}
use Rattle.spread_report_outbound.specs.declared.session.CompIds.{CompIds}
use Rattle.spread_report_outbound.specs.code.Sessions.{outbound_at}
use Rattle.spread_report_outbound.specs.code.OutboundFields.{sessions_of}

abbrev pub session_of : ℕ → Option CompIds → OutboundSession
session_of n o = record { next = n; comp_ids = o }

-- as many sessions as numbers
pub length-sessions_of : (ns : List ℕ) (os : List (Option CompIds)) → length ns ≡ length os
    → length (sessions_of ns os) ≡ length ns
length-sessions_of [] os same = refl
length-sessions_of (n ∷ ns) [] same = absurd (cc)
length-sessions_of (n ∷ ns) (o ∷ os) same = ap suc (length-sessions_of ns os (cc))

-- a session, which has its number and its CompIDs
pub get_or-sessions_of : (ns : List ℕ) (os : List (Option CompIds)) (i n : ℕ) (o : Option CompIds)
    → length ns ≡ length os → get_or (sessions_of ns os) i (session_of n o) ≡ session_of (get_or ns i n) (get_or os i o)
get_or-sessions_of [] [] i n o same = refl
get_or-sessions_of [] (p ∷ os) i n o same = absurd (cc)
get_or-sessions_of (m ∷ ns) [] i n o same = absurd (cc)
get_or-sessions_of (m ∷ ns) (p ∷ os) zero n o same = refl
get_or-sessions_of (m ∷ ns) (p ∷ os) (suc i) n o same = get_or-sessions_of ns os i n o (cc)

-- one session with another number
pub numbered_again : (ns : List ℕ) (os : List (Option CompIds)) (i n : ℕ)
    → sessions_of (set ns i n) os ≡ set (sessions_of ns os) i (session_of n (get_or os i None))
numbered_again [] os i n = refl
numbered_again (m ∷ ns) [] zero n = refl
numbered_again (m ∷ ns) [] (suc i) n = refl
numbered_again (m ∷ ns) (p ∷ os) zero n = refl
numbered_again (m ∷ ns) (p ∷ os) (suc i) n = ap (λ (l : List OutboundSession). session_of m p ∷ l)
    (numbered_again ns os i n)

module _ (ns : List ℕ) (os : List (Option CompIds)) (in_ns : length ns ≡ 16) (in_os : length os ≡ 16) where
  both : length ns ≡ length os
  both = in_ns ∙ sym in_os

  pub in_sessions : length (sessions_of ns os) ≡ 16
  in_sessions = length-sessions_of ns os both ∙ in_ns

  -- the CompIDs of a session
  pub comp_ids_of : (i : ℕ) → get_or os i None ≡ (outbound_at (sessions_of ns os) i).comp_ids
  comp_ids_of i = sym (ap (λ (l : OutboundSession). l.comp_ids) (get_or-sessions_of ns os i 1 None both))

  -- its number
  pub number_of : (i : ℕ) → i < 16 → get_or ns i 0 ≡ (outbound_at (sessions_of ns os) i).next
  number_of i below = get_or_default ns i 0 1 (rw in_ns below)
      ∙ sym (ap (λ (l : OutboundSession). l.next) (get_or-sessions_of ns os i 1 None both))

  -- the session as the code reads it
  pub read_at : (i n : ℕ) (o : Option CompIds) → i < 16
      → session_of (get_or ns i n) (get_or os i o) ≡ get_or (sessions_of ns os) i
      (session_of (get_or ns i n) (get_or os i o))
  read_at i n o below = sym (get_or-sessions_of ns os i n o both)
      ∙ get_or_default (sessions_of ns os) i (session_of n o) (session_of (get_or ns i n) (get_or os i o))
      (rw in_sessions below)

  -- one session with other CompIDs
  pub with_comp_ids : (i : ℕ) (o : Option CompIds) (s : ℕ) → i < 16 → outbound_at (sessions_of ns (set os i o)) s
      ≡ if i == s then session_of (outbound_at (sessions_of ns os) s).next o else outbound_at (sessions_of ns os) s
  with_comp_ids i o s below =
      let sizes : length ns ≡ length (set os i o) = both ∙ sym (length-set os i o) in
      let now : outbound_at (sessions_of ns (set os i o)) s ≡ session_of (get_or ns s 1) (get_or (set os i o) s None) =
      get_or-sessions_of ns (set os i o) s 1 None sizes in
      let was : outbound_at (sessions_of ns os) s ≡ session_of (get_or ns s 1) (get_or os s None) =
      get_or-sessions_of ns os s 1 None both in
      elim (cases_eq s i) [
        | inl e ↦ rw (now, was, e, eq-eqb i i refl, get_or-set_same os i o None (rw in_os below)) refl
        | inr apart ↦ rw (now, was, ne_eqb i s (λ e. apart (sym e)), get_or-set_other os i s o None apart) refl
      ]
