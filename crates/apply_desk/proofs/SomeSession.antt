-- A test of the sixteen sessions: it passes for some of them, or for none.
use Rattle.std.proofs.Common.{◌≡◌, ℕ, ◌<◌, Bool, true, false, get_or, refl, sym, ap, ◌∙◌, arith, zero-add}
use Rattle.std.specs.List.{list_any, range_with_len}
use Rattle.std.proofs.lemmas.List.Elements.{All-from_get_or}
use Rattle.std.proofs.lemmas.List.Folds.{list_any_at, list_any_none, Any-from_list_any}
use Rattle.std.proofs.lemmas.List.FromFn.{length-range_with_len, get_or-range_with_len}
use Rattle.spread_rules_ids.specs.declared.limits.TheConstants.{SESSIONS}

session_is : (s d : ℕ) → s < 16 → get_or (range_with_len 0 16) s d ≡ s
session_is s d low = get_or-range_with_len 0 16 s d low ∙ zero-add s

pub any_session : (test : ℕ → Bool) (s : ℕ) → s < SESSIONS → test s ≡ true
    → list_any test (range_with_len 0 SESSIONS) ≡ true
any_session test s low is = list_any_at test (range_with_len 0 16) s 0 (omega (arith, low, length-range_with_len 0 16))
    (ap test (session_is s 0 low) ∙ is)

pub no_session : (test : ℕ → Bool) → ((s : ℕ) → s < SESSIONS → test s ≡ false)
    → list_any test (range_with_len 0 SESSIONS) ≡ false
no_session test none =
    list_any_none test (range_with_len 0 16)
    (All-from_get_or (λ (s : ℕ). test s ≡ false) (range_with_len 0 16) 0
    (λ s h. let low : s < 16 = omega (arith, h, length-range_with_len 0 16) in ap test (session_is s 0 low)
    ∙ none s low))

-- ---- and back

pub some_session : (test : ℕ → Bool) → list_any test (range_with_len 0 SESSIONS) ≡ true → (s : ℕ) × (s < SESSIONS)
    × (test s ≡ true)
some_session test any =
    let a = Any-from_list_any test (range_with_len 0 16) any in
    let low : a.0 < 16 = omega (arith, a.2, length-range_with_len 0 16) in
    (a.0, low, ap test (sym (session_is a.0 a.1 low) ∙ a.3) ∙ a.4)

pub each_session : (test : ℕ → Bool) → list_any test (range_with_len 0 SESSIONS) ≡ false → (s : ℕ) → s < SESSIONS
    → test s ≡ false
each_session test none s low = by_test (test s) refl
  where
    by_test : (b : Bool) → test s ≡ b → test s ≡ false
    by_test false is = is
    by_test true is = let clash : true ≡ false = sym (any_session test s low is) ∙ none in absurd (cc clash)
