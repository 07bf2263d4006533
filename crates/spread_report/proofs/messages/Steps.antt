-- The steps of one session among those of an entry, and of one entry more.
use Rattle.std.proofs.Common.{◌≡◌, ℕ, ◌+◌, ◌==◌, Bool, true, false, cond, List, [], ◌∷◌, ◌++◌, map, refl, sym, ap, ◌∙◌, append-nil}
use Rattle.std.specs.Prelude.{filter}
use Rattle.std.specs.List.{enumerate_from}
use Rattle.std.proofs.lemmas.Grind.{flat_map-append}
use Rattle.spread_rules_rulebook.specs.Rulebook.{Rules}
use Rattle.spread_report_outbound.specs.Steps.{OutgoingStep}
use Rattle.spread_report_orders.specs.ExecutionReports.{ExecutionReport, report_step}
use Rattle.spread_report.specs.EntryMessages.{entry_reports, event_steps}
use Rattle.spread_report.specs.Outgoing.{AppliedEntry, entry_steps, session_steps}
use Rattle.spread_report_outbound.specs.code.Addressed.{AddressedStep, steps_to, steps_of}
use Rattle.spread_report_orders.specs.code.Reports.{reports_from}
use Rattle.spread_report.specs.code.Addressed.{entry_messages}
use Rattle.spread_report_outbound.proofs.Steps.{steps_of-append}

abbrev step_of : AddressedStep → OutgoingStep
step_of m = m.step

-- those of an entry's own session
abbrev kept : Bool → ℕ → List OutgoingStep → List AddressedStep
kept b session [] = []
kept b session (c ∷ cs) = cond b (record { to = session; step = c } ∷ kept b session cs) (kept b session cs)

kept_is : (session s : ℕ) (cs : List OutgoingStep)
    → filter (λ (m : AddressedStep). m.to == s) (steps_to session cs) ≡ kept (session == s) session cs
kept_is session s [] = refl
kept_is session s (c ∷ cs) = ap (λ (l : List AddressedStep). cond (session == s) (record { to = session; step = c } ∷ l)
    l) (kept_is session s cs)

kept_steps : (b : Bool) (session : ℕ) (cs : List OutgoingStep) → map step_of (kept b session cs) ≡ cond b cs []
kept_steps true session [] = refl
kept_steps true session (c ∷ cs) = ap (λ (l : List OutgoingStep). c ∷ l) (kept_steps true session cs)
kept_steps false session [] = refl
kept_steps false session (c ∷ cs) = kept_steps false session cs

own_steps : (session s : ℕ) (steps : List OutgoingStep)
    → steps_of s (steps_to session steps) ≡ cond (session == s) steps []
own_steps session s steps = ap (λ (l : List AddressedStep). map step_of l) (kept_is session s steps)
    ∙ kept_steps (session == s) session steps

-- those of reports
report_steps : (s place n : ℕ) (rs : List ExecutionReport)
    → map (report_step place) (filter (λ (r : ℕ × ExecutionReport). r.1.to == s) (enumerate_from n rs)) ≡ steps_of s
    (reports_from place n rs)
report_steps s place n [] = refl
report_steps s place n (r ∷ rs) =
    let told = report_step place in
    let is_to : ℕ × ExecutionReport → Bool = λ r. r.1.to == s in
    let test : AddressedStep → Bool = λ m. m.to == s in
    elim (r.to == s) as (λ b. map told (cond b ((n, r) ∷ filter is_to (enumerate_from (n + 1) rs))
    (filter is_to (enumerate_from (n + 1) rs)))
    ≡ map step_of (cond b (record { to = r.to; step = told (n, r) } ∷ filter test (reports_from place (n + 1) rs))
    (filter test (reports_from place (n + 1) rs)))) [
      | true ↦ ap (λ (l : List OutgoingStep). told (n, r) ∷ l) (report_steps s place (n + 1) rs)
      | false ↦ report_steps s place (n + 1) rs
    ]

-- those of an entry
pub entry_steps_are : (rules : Rules) (s : ℕ) (w : AppliedEntry)
    → entry_steps rules s w ≡ steps_of s (entry_messages rules w)
entry_steps_are rules s w =
    let e = w.entry in
    let reports = entry_reports rules w.place e.session e.event w.outcome w.fills in
    let own = event_steps e.event w.outcome in
    ap (λ (l : List OutgoingStep). cond (e.session == s) own [] ++ l) (report_steps s w.place 1 reports)
    ∙ (ap (λ (l : List OutgoingStep). l ++ steps_of s (reports_from w.place 1 reports))
    (sym (own_steps e.session s own))
    ∙ sym (steps_of-append s (steps_to e.session own) (reports_from w.place 1 reports)))

pub session_steps-push : (rules : Rules) (ws : List AppliedEntry) (w : AppliedEntry) (s : ℕ)
    → session_steps rules (ws ++ w ∷ []) s ≡ session_steps rules ws s ++ steps_of s (entry_messages rules w)
session_steps-push rules ws w s =
    flat_map-append (entry_steps rules s) ws (w ∷ [])
    ∙ ap (λ (l : List OutgoingStep). session_steps rules ws s ++ l)
    (append-nil (entry_steps rules s w) ∙ entry_steps_are rules s w)
