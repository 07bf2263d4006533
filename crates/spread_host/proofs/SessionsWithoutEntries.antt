-- A session with no entry is sent nothing.
use Rattle.std.proofs.Common.{◌≡◌, ℕ, ◌+◌, ◌==◌, false, eqb, List, [], ◌∷◌, ◌++◌, map, refl, sym, ap, ◌∙◌, inl, inr}
use Rattle.std.specs.Prelude.{filter}
use Rattle.std.specs.List.{AllByRecursion, concat, enumerate_from}
use Rattle.std.proofs.lemmas.Bool.{cases_eq, eq-eqb, ne_eqb}
use Rattle.spread_rules.specs.declared.event.Entry.{Entry}
use Rattle.spread_rules.specs.Journal.{restricted}
use Rattle.spread_rules.specs.code.Meaning.{JournalState, meaning_of, after_entry, no_entries}
use Rattle.spread_rules_rulebook.specs.Rulebook.{Rules}
use Rattle.spread_report_orders.specs.ExecutionReports.{ExecutionReport, report_step}
use Rattle.spread_report.specs.EntryMessages.{entry_reports}
use Rattle.spread_report_outbound.specs.Steps.{OutgoingStep, logged_on, numbered, gap_fill, steps_texts}
use Rattle.spread_report_outbound.specs.code.Steps.{outbound_before_logon}
use Rattle.spread_report.specs.Outgoing.{AppliedEntry, entry_steps, session_steps}
use Rattle.spread_report.specs.Messages.{messages_to}
use Rattle.apply_desk.specs.Applied.{outgoing_bytes}
use Rattle.apply_desk.specs.code.Applied.{applied_entries_from}
use Rattle.apply_desk.proofs.OneByOne.{entries_are}

-- ---- messages, which bring no CompIDs

abbrev IsMessage : OutgoingStep → Type 0
IsMessage (logged_on ids) = ⊥
IsMessage (numbered kind fields) = Unit {0}
IsMessage (gap_fill first last) = Unit {0}

-- ---- the steps of a session that no entry is of

reports_are : (place : ℕ) (rs : List (ℕ × ExecutionReport)) → AllByRecursion IsMessage (map (report_step place) rs)
reports_are place [] = tt
reports_are place (r ∷ rs) = (tt, reports_are place rs)

-- an entry of another session brings this one no CompIDs
entry_are : (rules : Rules) (s : ℕ) (w : AppliedEntry) → eqb w.entry.session s ≡ false
    → AllByRecursion IsMessage (entry_steps rules s w)
entry_are rules s w other =
    rw other
    (reports_are w.place (filter (λ (r : ℕ × ExecutionReport). r.1.to == s)
    (enumerate_from 1 (entry_reports rules w.place w.entry.session w.entry.event w.outcome w.fills))))

steps_both : (xs ys : List OutgoingStep) → AllByRecursion IsMessage xs → AllByRecursion IsMessage ys
    → AllByRecursion IsMessage (xs ++ ys)
steps_both [] ys a b = b
steps_both (x ∷ xs) ys a b = (a.0, steps_both xs ys a.1 b)

all_are : (rules : Rules) (s : ℕ) (past : JournalState) (place : ℕ) (es : List Entry) → restricted s es ≡ []
    → AllByRecursion IsMessage (session_steps rules (applied_entries_from rules past place es) s)
all_are rules s past place [] none = tt
all_are rules s past place (e ∷ es) none =
    let m = meaning_of rules past place e in
    let w : AppliedEntry = record { place = place; entry = e; outcome = m.outcome; fills = m.fills } in
    let later = applied_entries_from rules (after_entry rules past place e) (place + 1) es in
    elim (cases_eq e.session s) [
      | inl same ↦
          let at : restricted s (e ∷ es) ≡ e.event ∷ restricted s es = rw (eq-eqb e.session s same) refl in
          let clash : e.event ∷ restricted s es ≡ [] = sym at ∙ none in
          absurd (cc clash)
      | inr apart ↦
          let other : eqb e.session s ≡ false = ne_eqb e.session s apart in
          let at : restricted s (e ∷ es) ≡ restricted s es = rw other refl in
          steps_both (entry_steps rules s w) (session_steps rules later s) (entry_are rules s w other)
          (all_are rules s (after_entry rules past place e) (place + 1) es (sym at ∙ none))
    ]

-- before its Logon a session is sent nothing
texts_silent : (stamp : List ℕ) (n : ℕ) (cs : List OutgoingStep) → AllByRecursion IsMessage cs
    → steps_texts stamp (outbound_before_logon n) cs ≡ []
texts_silent stamp n [] are = refl
texts_silent stamp n (logged_on ids ∷ cs) are = absurd are.0
texts_silent stamp n (numbered kind fields ∷ cs) are = texts_silent stamp n cs are.1
texts_silent stamp n (gap_fill first last ∷ cs) are = texts_silent stamp n cs are.1

pub silent : (rules : Rules) (stamp : List ℕ) (journal : List Entry) (s : ℕ) → restricted s journal ≡ []
    → outgoing_bytes rules stamp journal s ≡ []
silent rules stamp journal s none =
    ap (λ (ws : List AppliedEntry). concat (messages_to rules stamp ws s)) (entries_are rules journal)
    ∙ ap concat (texts_silent stamp 1 (session_steps rules (applied_entries_from rules no_entries 1 journal) s)
    (all_are rules s no_entries 1 journal none))
