-- A session's numbers are spent where the one that it would use next is above the limit by more than one, and where one of
-- its messages would bear a number above the limit.
use Rattle.std.proofs.Common.{◌≡◌, ℕ, ◌+◌, ◌<◌, ◌≤◌, nat_lt, ◌&&◌, ◌||◌, true, false, if◌then◌else◌, List, [], ◌∷◌, Some, refl, arith, ◌⊎◌, inl, inr}
use Rattle.std.specs.Prelude.{fold}
use Rattle.std.specs.Option.{is_some}
use Rattle.std.proofs.lemmas.Bool.{cases_lt}
use Rattle.std.proofs.lemmas.Bool.Decides.{nat_tests}
use Rattle.spread_rules_rulebook.specs.Rulebook.{Rules}
use Rattle.spread_report_outbound.specs.declared.session.OutboundSession.{OutboundSession}
use Rattle.spread_report_outbound.specs.Steps.{OutgoingStep, logged_on, numbered, gap_fill, after_step}
use Rattle.spread_report_outbound.specs.code.Steps.{outbound_before_logon}
use Rattle.spread_report.specs.Outgoing.{AppliedEntry, session_steps, spends_numbers}
use Rattle.spread_report_outbound.specs.code.PerSession.{pass_limit}
use Rattle.spread_report.specs.code.PerSession.{spends_from}

-- with one number used
abbrev counted : OutboundSession → OutboundSession
counted out = record out { next = out.next + 1 }

step_grows : (c : OutgoingStep) (out : OutboundSession) → out.next ≤ (after_step out c).next
step_grows (logged_on ids) out = omega arith
step_grows (gap_fill first last) out = omega arith
step_grows (numbered kind fields) out = elim (is_some out.comp_ids) as
    (λ b. out.next ≤ (if b then counted out else out).next) [ true ↦ omega arith | false ↦ omega arith ]

grows : (cs : List OutgoingStep) (out : OutboundSession) → out.next ≤ (fold after_step out cs).next
grows [] out = omega arith
grows (c ∷ cs) out = omega (arith, step_grows c out, grows cs (after_step out c))

not_above : (n m : ℕ) → n ≤ m → nat_lt m n ≡ false
not_above n m h = grind (arith, nat_tests)

above : (n m : ℕ) → m < n → nat_lt m n ≡ true
above n m h = grind (arith, nat_tests)

abbrev IsLimit : List OutgoingStep → OutboundSession → Type 0
IsLimit cs out = nat_lt 1000000000 (fold after_step out cs).next ≡ pass_limit out cs

-- a message that uses a number, and more steps
with_number : (cs : List OutgoingStep) (out : OutboundSession) → (out.next + 1 ≤ 1000000000 → IsLimit cs (counted out))
    → (out.next < 1000000000) ⊎ (1000000000 ≤ out.next)
    → nat_lt 1000000000 (fold after_step (counted out) cs).next ≡ nat_lt 999999999 out.next || pass_limit (counted out)
    cs
with_number cs out later (inl low) =
    let here : nat_lt 999999999 out.next ≡ false = not_above out.next 999999999 (omega (arith, low)) in
    rw here (later (omega (arith, low)))
with_number cs out later (inr high) =
    let here : nat_lt 999999999 out.next ≡ true = above out.next 999999999 (omega (arith, high)) in
    let after : nat_lt 1000000000 (fold after_step (counted out) cs).next ≡ true =
    above (fold after_step (counted out) cs).next 1000000000 (omega (arith, high, grows cs (counted out))) in
    rw (here, after) refl

limit_is : (cs : List OutgoingStep) (out : OutboundSession) → out.next ≤ 1000000000 → IsLimit cs out
limit_is [] out h = not_above out.next 1000000000 h
limit_is (logged_on ids ∷ cs) out h = limit_is cs (record out { comp_ids = Some ids }) h
limit_is (gap_fill first last ∷ cs) out h = limit_is cs out h
limit_is (numbered kind fields ∷ cs) out h =
    elim (is_some out.comp_ids) as (λ b. nat_lt 1000000000 (fold after_step (if b then counted out else out) cs).next ≡
    (b && nat_lt 999999999 out.next) || pass_limit (if b then counted out else out) cs) [
      | true ↦ with_number cs out (limit_is cs (counted out)) (cases_lt out.next 1000000000)
      | false ↦ limit_is cs out h
    ]

pub spent_numbers : (rules : Rules) (applied : List AppliedEntry) (s : ℕ)
    → spends_numbers rules applied s ≡ spends_from rules s (outbound_before_logon 1) applied
spent_numbers rules applied s = limit_is (session_steps rules applied s) (outbound_before_logon 1) (omega arith)
