-- One fill more.
use Rattle.std.proofs.Common.{◌≡◌, ℕ, ◌+◌, ◌<◌, List, [], ◌∷◌, ◌++◌, length, get_or, take, drop, subst, Ok, Err, sym, ap, ◌∙◌, arith, refl, append-nil, length-append}
use Rattle.std.proofs.lemmas.Grind.{flat_map-append}
use Rattle.std.proofs.lemmas.List.{take_more, take-append-drop}
use Rattle.spread_report_outbound.specs.declared.fault.DeskFault.{DeskFault}
use Rattle.spread_report_outbound.specs.declared.outbox.Outbox.{Outbox}
use Rattle.spread_report_outbound.specs.code.Sending.{Sends}
use Rattle.spread_report_outbound.proofs.MoreMessages.{all_sent, sends_after, sends_no_more, sends_ok}
use Rattle.spread_rules.specs.declared.fill.Fill.{Fill}
use Rattle.spread_rules_rulebook.specs.Rulebook.{Rules}
use Rattle.spread_report_orders.specs.ExecutionReports.{ExecutionReport, fill_reports, fills_reports}
use Rattle.spread_report_outbound.specs.code.Addressed.{AddressedStep}
use Rattle.spread_report_orders.specs.code.Reports.{report, reports_from, reports_of, report_count}
use Rattle.spread_rules_rulebook.specs.declared.instrument.Instrument.{Instrument}
use Rattle.spread_rules_rulebook.specs.declared.instrument.Instrument.TheVariants.{Outright, Spread}

-- ---- reports, and more reports after them

pub reports_from-append : (place i : ℕ) (xs ys : List ExecutionReport)
    → reports_from place i (xs ++ ys) ≡ reports_from place i xs ++ reports_from place (i + length xs) ys
reports_from-append place i [] ys =
    let z : i ≡ i + 0 = omega arith in
    ap (λ (k : ℕ). reports_from place k ys) z
reports_from-append place i (x ∷ xs) ys =
    let z : i + 1 + length xs ≡ i + length (x ∷ xs) = omega arith in
    ap (λ (l : List AddressedStep). report place i x ∷ l)
    (reports_from-append place (i + 1) xs ys ∙ ap (λ (k : ℕ). reports_from place (i + 1) xs ++ reports_from place k ys)
    z)

-- how many reports fills have
count_is : (k : Instrument) (rules : Rules) (f : Fill) → length (fill_reports rules f k) ≡ report_count k
count_is (Outright m) rules f = refl
count_is (Spread near far) rules f = refl

pub reports_length : (rules : Rules) (fs : List Fill) → length (fills_reports rules fs) ≡ reports_of fs
reports_length rules [] = refl
reports_length rules (h ∷ fs) =
    omega (
      arith,
      length-append (fill_reports rules h h.instrument) (fills_reports rules fs),
      count_is h.instrument rules h,
      reports_length rules fs,
    )

-- a report behind those of an accepted order and its fills
pub report_behind : (rules : Rules) (place : ℕ) (first last : ExecutionReport) (fs : List Fill)
    → reports_from place 1 (first ∷ fills_reports rules fs)
    ++ report place (2 + reports_of fs) last ∷ [] ≡ reports_from place 1
    (first ∷ (fills_reports rules fs ++ last ∷ []))
report_behind rules place first last fs =
    let z : 2 + reports_of fs ≡ 2 + length (fills_reports rules fs) = omega (arith, reports_length rules fs) in
    ap (λ (n : ℕ). reports_from place 1 (first ∷ fills_reports rules fs) ++ report place n last ∷ []) z
    ∙ ap (λ (l : List AddressedStep). report place 1 first ∷ l)
    (sym (reports_from-append place 2 (fills_reports rules fs) (last ∷ [])))

-- ---- fills, and more fills after them

abbrev fills_sent : Rules → ℕ → ℕ → List Fill → List AddressedStep
fills_sent rules place i fs = reports_from place i (fills_reports rules fs)

abbrev fill_sent : Rules → ℕ → ℕ → Fill → List AddressedStep
fill_sent rules place i f = reports_from place i (fill_reports rules f f.instrument)

pub reports_of-push : (fs : List Fill) (f : Fill) → reports_of (fs ++ f ∷ []) ≡ reports_of fs + report_count
    f.instrument
reports_of-push [] f = omega arith
reports_of-push (h ∷ fs) f = omega (arith, reports_of-push fs f)

pub reports_of_more : (fs : List Fill) (k : ℕ) (d : Fill) → k < length fs
    → reports_of (take (k + 1) fs) ≡ reports_of (take k fs) + report_count (get_or fs k d).instrument
reports_of_more fs k d h = ap (λ (l : List Fill). reports_of l) (take_more fs k d h)
    ∙ reports_of-push (take k fs) (get_or fs k d)

fills_sent-append : (rules : Rules) (place i : ℕ) (fs gs : List Fill)
    → fills_sent rules place i (fs ++ gs) ≡ fills_sent rules place i fs ++ fills_sent rules place (i + reports_of fs) gs
fills_sent-append rules place i fs gs =
    ap (reports_from place i) (flat_map-append (λ (f : Fill). fill_reports rules f f.instrument) fs gs)
    ∙ (reports_from-append place i (fills_reports rules fs) (fills_reports rules gs)
    ∙ ap (λ (n : ℕ). fills_sent rules place i fs ++ fills_sent rules place (i + n) gs) (reports_length rules fs))

fills_sent-push : (rules : Rules) (place i : ℕ) (fs : List Fill) (f : Fill)
    → fills_sent rules place i (fs ++ f ∷ []) ≡ fills_sent rules place i fs
    ++ fill_sent rules place (i + reports_of fs) f
fills_sent-push rules place i fs f =
    fills_sent-append rules place i fs (f ∷ [])
    ∙ ap (λ (rs : List ExecutionReport). fills_sent rules place i fs ++ reports_from place (i + reports_of fs) rs)
    (append-nil (fill_reports rules f f.instrument))

fills_sent_more : (rules : Rules) (place i : ℕ) (fs : List Fill) (k : ℕ) (d : Fill) → k < length fs
    → fills_sent rules place i (take (k + 1) fs) ≡ fills_sent rules place i (take k fs)
    ++ fill_sent rules place (i + reports_of (take k fs)) (get_or fs k d)
fills_sent_more rules place i fs k d h = ap (λ (l : List Fill). fills_sent rules place i l) (take_more fs k d h)
    ∙ fills_sent-push rules place i (take k fs) (get_or fs k d)

module _ {A : Type 0} (a b d : Outbox A) (rules : Rules) (place i n k : ℕ) (fs : List Fill) (f e : Fill) where
  next_reports : k < length fs → f ≡ get_or fs k e → n ≡ i + reports_of (take k fs)
      → fills_sent rules place i (take k fs) ++ fill_sent rules place n f ≡ fills_sent rules place i (take (k + 1) fs)
  next_reports below is_f is_n =
      ap (λ (m : ℕ). fills_sent rules place i (take k fs) ++ fill_sent rules place m f) is_n
      ∙ (ap (λ (h : Fill). fills_sent rules place i (take k fs) ++ fill_sent rules place (i + reports_of (take k fs)) h)
      is_f
      ∙ sym (fills_sent_more rules place i fs k e below))

  -- one fill more was reported
  pub fills_more : {U : Type 0} (t : U) → k < length fs → f ≡ get_or fs k e → n ≡ i + reports_of (take k fs)
      → Sends a b (fills_sent rules place i (take k fs)) all_sent → Sends b d (fill_sent rules place n f) (Ok t)
      → Sends a d (fills_sent rules place i (take (k + 1) fs)) all_sent
  fills_more t below is_f is_n p q =
      subst (λ (l : List AddressedStep). Sends a d l all_sent) (next_reports below is_f is_n)
      (sends_after a b d (fills_sent rules place i (take k fs)) (fill_sent rules place n f) tt all_sent p
      (sends_ok b d (fill_sent rules place n f) t tt q))

  -- one fill was not reported
  pub fills_stop : (T U : Type 0) (fault : DeskFault) → k < length fs → f ≡ get_or fs k e
      → n ≡ i + reports_of (take k fs)
      → Sends a b (fills_sent rules place i (take k fs)) all_sent
      → Sends {T = T} b d (fill_sent rules place n f) (Err fault)
      → Sends {T = U} a d (fills_sent rules place i fs) (Err fault)
  fills_stop T U fault below is_f is_n p w =
      let rest : List AddressedStep = fills_sent rules place (i + reports_of (take (k + 1) fs)) (drop (k + 1) fs) in
      let all : (fills_sent rules place i (take k fs) ++ fill_sent rules place n f)
      ++ rest ≡ fills_sent rules place i fs =
      ap (λ (l : List AddressedStep). l ++ rest) (next_reports below is_f is_n)
      ∙ (sym (fills_sent-append rules place i (take (k + 1) fs) (drop (k + 1) fs))
      ∙ ap (λ (l : List Fill). fills_sent rules place i l) (take-append-drop (k + 1) fs)) in
      subst (λ (l : List AddressedStep). Sends {T = U} a d l (Err fault)) all
      (sends_no_more a d (fills_sent rules place i (take k fs) ++ fill_sent rules place n f) rest T U fault
      (sends_after a b d (fills_sent rules place i (take k fs)) (fill_sent rules place n f) {T = T} tt (Err fault)
      p w))
