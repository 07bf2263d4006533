-- What a session is sent is a row of whole frames, read as the messages that were written.
use Rattle.std.proofs.Common.{◌≡◌, ◌≢◌, ℕ, ◌+◌, ◌<◌, ◌≤◌, ◌^◌, ◌==◌, nat_lt, Bool, true, false, ◌||◌, if◌then◌else◌, List, [], ◌∷◌, ◌++◌, map, cond, codes, length, refl, sym, subst, arith, Option, Some, None}
use Rattle.std.specs.List.{AllByRecursion, concat}
use Rattle.std.specs.Prelude.{filter}
use Rattle.std.proofs.lemmas.List.Folds.{concat-append}
use Rattle.spread_report_fields.specs.code.Fields.{text_field, number_field}
use Rattle.std.proofs.lemmas.Bool.Decides.{nat_tests}
use Rattle.fix_wire.specs.declared.writer.Field.{Field}
use Rattle.fix_wire.specs.Layout.{FitsMessage, message_text}
use Rattle.fix_wire_frames.specs.Frames.{IsFrame}
use Rattle.fix_wire.proofs.writing.WrittenMessage.{written_frame, read_first}
use Rattle.spread_rules_ids.specs.Ids.{is_id}
use Rattle.spread_rules_rulebook.specs.Rulebook.{Rules}
use Rattle.spread_report_outbound.specs.declared.session.OutboundSession.{OutboundSession}
use Rattle.spread_report_outbound.specs.declared.session.CompIds.{CompIds}
use Rattle.spread_report_outbound.specs.Steps.{OutgoingStep, logged_on, numbered, gap_fill, head_of, step_texts, steps_texts, after_step}
use Rattle.spread_report.specs.Outgoing.{AppliedEntry, entry_steps, session_steps}
use Rattle.spread_report_outbound.specs.code.Addressed.{AddressedStep, steps_of, new_seq_no}
use Rattle.spread_report.specs.code.Addressed.{entry_messages}
use Rattle.spread_report_outbound.specs.code.PerSession.{is_above_limit, pass_limit}
use Rattle.spread_report.specs.code.PerSession.{texts_from, journal_bytes, spends_from}
use Rattle.spread_report.proofs.messages.Steps.{entry_steps_are}
use Rattle.spread_report_outbound.proofs.FrameRows.{no_row, rows_both, message_row}
use Rattle.spread_report_outbound.specs.Rows.{IsRow}
use Rattle.spread_report.specs.Ranges.{AreNames, EntryInRange}
use Rattle.spread_report.proofs.frames.BodyLengths.{FitsReport, IsShortHead, fields_fit, body_short}
use Rattle.spread_report.proofs.messages.InRange.{FitsStep, FitsAddressed, id_plain, id_short, entry_fits}

-- ---- outbound states

abbrev pub IdsFit : Option CompIds → Type 0
IdsFit None = Unit {0}
IdsFit (Some ids) = (is_id ids.client ≡ true) × (is_id ids.host ≡ true)

-- its next number is at most one above the greatest, and its CompIDs are ids
pub record OutboundFits (out : OutboundSession) : Type 0 where
  pub next : out.next ≤ 1000000000
  pub ids : IdsFit out.comp_ids

-- ---- one message

-- texts that are a row of frames
abbrev AreFrames : List (List ℕ) → Type 0
AreFrames ts = IsRow ts (concat ts)

-- the fields of a gap fill
abbrev gap_fields : ℕ → ℕ → List Field
gap_fields next last = number_field 36 (new_seq_no next last) ∷ text_field 123 (codes "Y") ∷ []

module _ (stamp : List ℕ) (stamp_id : is_id stamp ≡ true) where
  written : (ids : CompIds) (kind n : ℕ) (d : Bool) (fs : List Field) → IdsFit (Some ids) → kind ≢ 1 → n < 2 ^ 64
      → AllByRecursion FitsReport fs → length fs ≤ 18
      → AreFrames (message_text (head_of stamp ids kind n d) fs ∷ [])
  written ids kind n d fs i k small fit few =
      let short : IsShortHead (head_of stamp ids kind n d) =
      record {
        number = small;
        sender = id_short ids.host i.1;
        target = id_short ids.client i.0;
        stamp =
            id_short stamp stamp_id;
      } in
      let fits : FitsMessage (head_of stamp ids kind n d) fs = (
        (k, (small, id_plain ids.host i.1, id_plain ids.client i.0, id_plain stamp stamp_id)),
        fields_fit fs fit,
        body_short (head_of stamp ids kind n d) fs short fit few,
      ) in
      let lawful : IsFrame (message_text (head_of stamp ids kind n d) fs) =
      written_frame (head_of stamp ids kind n d) fs fits in
      message_row (head_of stamp ids kind n d) fs lawful
      (λ more. read_first (message_text (head_of stamp ids kind n d) fs) more lawful)

  below_of : (a b : ℕ) → nat_lt a b ≡ true → a < b
  below_of a b e = grind (arith, nat_tests)

  not_below : (a b : ℕ) → nat_lt a b ≡ false → b ≤ a
  not_below a b e = grind (arith, nat_tests)

  new_by : (a b : Bool) (next last : ℕ) → next ≤ 1000000000 → (b ≡ false → last + 2 ≤ next)
      → (if a || b then next else last + 1) < 2 ^ 64
  new_by true b next last h below = omega (arith, h)
  new_by false true next last h below = omega (arith, h)
  new_by false false next last h below = omega (arith, h, below refl)

  new_small : (next last : ℕ) → next ≤ 1000000000 → new_seq_no next last < 2 ^ 64
  new_small next last h = new_by (last == 0) (nat_lt next (last + 2)) next last h (not_below next (last + 2))

  gap_is : (ids : CompIds) (next first last : ℕ) (b : Bool) → nat_lt first next ≡ b → IdsFit (Some ids)
      → next ≤ 1000000000
      → AreFrames (if b then message_text (head_of stamp ids 52 first true) (gap_fields next last) ∷ [] else [])
  gap_is ids next first last true e i h =
      let below : first < next = below_of first next e in
      written ids 52 first true (gap_fields next last) i (omega arith) (omega (arith, below, h)) (
        record { fits = (omega arith, omega arith, new_small next last h); short = tt },
        (record { fits = (omega arith, omega arith, refl); short = omega arith }, tt),
      ) (omega arith)
  gap_is ids next first last false e i h = no_row

  under_is : (o : Option CompIds) (next : ℕ) (c : OutgoingStep) → IdsFit o → next ≤ 1000000000 → FitsStep c
      → is_above_limit (record { next = next; comp_ids = o }) c ≡ false
      → AreFrames (step_texts stamp o next c) × OutboundFits (after_step (record { next = next; comp_ids = o }) c)
  under_is None next (logged_on ids) i h fit spent = (no_row, record { next = h; ids = fit })
  under_is None next (numbered kind fields) i h fit spent = (no_row, record { next = h; ids = i })
  under_is None next (gap_fill first last) i h fit spent = (no_row, record { next = h; ids = i })
  under_is (Some ids) next (logged_on new) i h fit spent = (no_row, record { next = h; ids = fit })
  under_is (Some ids) next (numbered kind fields) i h fit spent =
      let small : next ≤ 999999999 = not_below 999999999 next spent in (
        written ids kind next false fields i fit.0 (omega (arith, small)) fit.1 fit.2,
        record { next = omega (arith, small); ids = i },
      )
  under_is (Some ids) next (gap_fill first last) i h fit spent =
      (gap_is ids next first last (nat_lt first next) refl i h, record { next = h; ids = i })

  -- ---- more steps

  or_first : (a b : Bool) → a || b ≡ false → a ≡ false
  or_first true b e = e
  or_first false b e = refl

  or_second : (a b : Bool) → a || b ≡ false → b ≡ false
  or_second true b e = cc
  or_second false b e = e

  steps_are : (out : OutboundSession) (cs : List OutgoingStep) → OutboundFits out → AllByRecursion FitsStep cs
      → pass_limit out cs ≡ false → AreFrames (steps_texts stamp out cs)
  steps_are out [] h fit spent = no_row
  steps_are out (c ∷ cs) h fit spent =
      let ts : List (List ℕ) = step_texts stamp out.comp_ids out.next c in
      let us : List (List ℕ) = steps_texts stamp (after_step out c) cs in
      let first = under_is out.comp_ids out.next c h.ids h.next fit.0
      (or_first (is_above_limit out c) (pass_limit (after_step out c) cs) spent) in
      let rest = steps_are (after_step out c) cs first.1 fit.1
      (or_second (is_above_limit out c) (pass_limit (after_step out c) cs) spent) in
      subst (λ (t : List ℕ). IsRow (ts ++ us) t) (sym (concat-append ts us))
      (rows_both ts us (concat ts) (concat us) first.0 rest)

-- ---- the steps of one session

steps_fit : (s : ℕ) (ms : List AddressedStep) → AllByRecursion FitsAddressed ms
    → AllByRecursion FitsStep (steps_of s ms)
steps_fit s [] fit = tt
steps_fit s (m ∷ ms) fit =
    elim (m.to == s) as (λ b. AllByRecursion FitsStep (map (λ (m : AddressedStep). m.step)
    (cond b (m ∷ filter (λ (m : AddressedStep). m.to == s) ms) (filter (λ (m : AddressedStep). m.to == s) ms)))) [
      | true ↦ (fit.0, steps_fit s ms fit.1)
      | false ↦ steps_fit s ms fit.1
    ]

more_fit : (xs ys : List OutgoingStep) → AllByRecursion FitsStep xs → AllByRecursion FitsStep ys
    → AllByRecursion FitsStep (xs ++ ys)
more_fit [] ys a b = b
more_fit (x ∷ xs) ys a b = (a.0, more_fit xs ys a.1 b)

module _ (stamp : List ℕ) (stamp_id : is_id stamp ≡ true) (rules : Rules) (names : AreNames rules) (s : ℕ) where
  session_fit : (ws : List AppliedEntry) → AllByRecursion (EntryInRange rules) ws
      → AllByRecursion FitsStep (session_steps rules ws s)
  session_fit [] fit = tt
  session_fit (w ∷ ws) fit =
      let here : AllByRecursion FitsStep (steps_of s (entry_messages rules w)) =
      steps_fit s (entry_messages rules w) (entry_fits rules names w fit.0) in
      more_fit (entry_steps rules s w) (session_steps rules ws s)
      (subst (λ (cs : List OutgoingStep). AllByRecursion FitsStep cs) (sym (entry_steps_are rules s w)) here)
      (session_fit ws fit.1)

  pub from_is : (out : OutboundSession) (ws : List AppliedEntry) → OutboundFits out
      → AllByRecursion (EntryInRange rules) ws → spends_from rules s out ws ≡ false
      → IsRow (texts_from stamp rules s out ws) (journal_bytes stamp rules s out ws)
  from_is out ws h fit spent = steps_are stamp stamp_id out (session_steps rules ws s) h (session_fit ws fit) spent
