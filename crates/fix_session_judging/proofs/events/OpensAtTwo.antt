-- After a lawful Logon the number 2 is due.
use Rattle.std.proofs.Common.{◌≡◌, ℕ, ◌+◌, Bool, true, false, List, [], ◌∷◌, Some, None, option_map, refl, sym, ap, ◌∙◌, arith}
use Rattle.std.specs.Str.{bytes_eq}
use Rattle.std.proofs.lemmas.Bool.{and_parts}
use Rattle.std.proofs.lemmas.Bool.Decides.{nat_tests}
use Rattle.std.proofs.lemmas.Slice.Eq.{bytes_eq-Decides}
use Rattle.fix_wire_frames.specs.Messages.{kind, number}
use Rattle.fix_session_kinds.specs.Table.{meaning_of_message}
use Rattle.fix_session_kinds.specs.code.ByKind.{meaning_of_kind_text}
use Rattle.fix_session_kinds.proofs.KindOfBytes.{meaning_is}
use Rattle.fix_session_judging.specs.declared.session.Logon.{Logon}
use Rattle.fix_session_judging.specs.declared.session.State.TheVariants as states
use Rattle.fix_session_judging.specs.declared.session.Session.{Session}
use Rattle.fix_session_judging.specs.View.{logon_of, due_after_accepted}
use Rattle.fix_session_judging.specs.code.View.{view_with}
use Rattle.fix_session_judging.specs.code.Openings.{is_opening, logon_by_parts}
use Rattle.fix_session_judging.proofs.events.OpeningInParts.{logon_is}
use Rattle.fix_session_judging.specs.Steps.{judge, opens, step_at, step_or_stay}

opening_by_parts : (m : List ℕ) (n : ℕ) (l : Logon) → logon_by_parts m n ≡ Some l → is_opening m n ≡ true
unfolding logon_by_parts
opening_by_parts m n l e = by_test (is_opening m n) refl
  where
    by_test : (v : Bool) → is_opening m n ≡ v → v ≡ true
    by_test true h = refl
    by_test false h = let none : None ≡ Some l = rw h at e in cc

pub opening_of : (m : List ℕ) (n : ℕ) (l : Logon) → logon_of m n ≡ Some l → is_opening m n ≡ true
opening_of m n l e = opening_by_parts m n l (sym (logon_is m n) ∙ e)

same_bytes : (xs ys : List ℕ) → bytes_eq xs ys ≡ true → xs ≡ ys
same_bytes xs ys e = (bytes_eq-Decides xs ys).0 e

pub due_two : (m : List ℕ) (n : ℕ) (l : Logon) → logon_of m n ≡ Some l
    → due_after_accepted n (meaning_of_message m n) ≡ 2
due_two m n l e =
    let parts = and_parts _ _ (and_parts _ _ (and_parts _ _ (opening_of m n l e)).0).0 in
    let kind_is = same_bytes (kind m) (65 ∷ []) parts.0 in
    let one : n ≡ 1 = grind (arith, nat_tests) in
    ap (due_after_accepted n) (meaning_is m n) ∙ ap (λ k. due_after_accepted n (meaning_of_kind_text k m n)) kind_is
    ∙ (let h : n + 1 ≡ 2 = omega (arith, one) in h)

pub judge_opens : (s : Session) (m : List ℕ) (n : ℕ) (l : Logon) → s.state ≡ states.Before → number m ≡ Some n
    → logon_of m n ≡ Some l → judge s m ≡ opens 2 (Some l)
judge_opens s m n l state numbered logon =
    ap (λ o. step_or_stay s (option_map (view_with m) o)) numbered
    ∙ ap (λ t. step_at t (view_with m n)) state
    ∙ ap (λ o. opens (due_after_accepted n (meaning_of_message m n)) o) logon
    ∙ ap (λ k. opens k (Some l)) (due_two m n l logon)
