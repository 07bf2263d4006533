-- Steps of a session, and more steps after them.
use Rattle.std.proofs.Common.{◌≡◌, ℕ, ◌==◌, Bool, true, false, cond, ◌||◌, List, [], ◌∷◌, ◌++◌, map, refl, sym, ap, ◌∙◌, append_assoc}
use Rattle.std.specs.Prelude.{fold, filter}
use Rattle.std.specs.List.{concat}
use Rattle.std.proofs.Math.Bool.{or_assoc}
use Rattle.std.proofs.lemmas.List.Folds.{concat-append}
use Rattle.std.proofs.lemmas.List.Sums.{fold-append}
use Rattle.spread_report_outbound.specs.declared.session.OutboundSession.{OutboundSession}
use Rattle.spread_report_outbound.specs.Steps.{OutgoingStep, step_texts, steps_texts, after_step}
use Rattle.spread_report_outbound.specs.code.Addressed.{AddressedStep, steps_of}
use Rattle.spread_report_outbound.specs.code.PerSession.{is_above_limit, pass_limit, texts_to, messages_bytes, outbound_after, spends}

abbrev step_of : AddressedStep → OutgoingStep
step_of m = m.step

-- ---- steps of any session

pub steps_texts-append : (stamp : List ℕ) (l : OutboundSession) (xs ys : List OutgoingStep)
    → steps_texts stamp l (xs ++ ys) ≡ steps_texts stamp l xs ++ steps_texts stamp (fold after_step l xs) ys
steps_texts-append stamp l [] ys = refl
steps_texts-append stamp l (c ∷ cs) ys =
    ap (λ (t : List (List ℕ)). step_texts stamp l.comp_ids l.next c ++ t)
    (steps_texts-append stamp (after_step l c) cs ys)
    ∙ sym (append_assoc (step_texts stamp l.comp_ids l.next c) (steps_texts stamp (after_step l c) cs)
    (steps_texts stamp (fold after_step (after_step l c) cs) ys))

pub pass_limit-append : (l : OutboundSession) (xs ys : List OutgoingStep)
    → pass_limit l (xs ++ ys) ≡ pass_limit l xs || pass_limit (fold after_step l xs) ys
pass_limit-append l [] ys = refl
pass_limit-append l (c ∷ cs) ys =
    ap (λ (t : Bool). is_above_limit l c || t) (pass_limit-append (after_step l c) cs ys)
    ∙ sym (or_assoc (is_above_limit l c) (pass_limit (after_step l c) cs)
    (pass_limit (fold after_step (after_step l c) cs) ys))

-- ---- the steps of one session

pub steps_of-append : (s : ℕ) (xs ys : List AddressedStep) → steps_of s (xs ++ ys) ≡ steps_of s xs ++ steps_of s ys
steps_of-append s [] ys = refl
steps_of-append s (m ∷ xs) ys =
    let test : AddressedStep → Bool = λ m. m.to == s in
    elim (m.to == s) as (λ b. map step_of (cond b (m ∷ filter test (xs ++ ys)) (filter test (xs ++ ys))) ≡ map step_of
    (cond b (m ∷ filter test xs) (filter test xs)) ++ map step_of (filter test ys)) [
      | true ↦ ap (λ (l : List OutgoingStep). m.step ∷ l) (steps_of-append s xs ys)
      | false ↦ steps_of-append s xs ys
    ]

-- ---- messages, and more messages after them

pub outbound_after-append : (s : ℕ) (l : OutboundSession) (xs ys : List AddressedStep)
    → outbound_after s l (xs ++ ys) ≡ outbound_after s (outbound_after s l xs) ys
outbound_after-append s l xs ys = ap (fold after_step l) (steps_of-append s xs ys)
    ∙ fold-append after_step l (steps_of s xs) (steps_of s ys)

pub texts_to-append : (stamp : List ℕ) (s : ℕ) (l : OutboundSession) (xs ys : List AddressedStep)
    → texts_to stamp s l (xs ++ ys) ≡ texts_to stamp s l xs ++ texts_to stamp s (outbound_after s l xs) ys
texts_to-append stamp s l xs ys = ap (steps_texts stamp l) (steps_of-append s xs ys)
    ∙ steps_texts-append stamp l (steps_of s xs) (steps_of s ys)

pub messages_bytes-append : (stamp : List ℕ) (s : ℕ) (l : OutboundSession) (xs ys : List AddressedStep)
    → messages_bytes stamp s l (xs ++ ys) ≡ messages_bytes stamp s l xs
    ++ messages_bytes stamp s (outbound_after s l xs) ys
messages_bytes-append stamp s l xs ys = ap concat (texts_to-append stamp s l xs ys)
    ∙ concat-append (texts_to stamp s l xs) (texts_to stamp s (outbound_after s l xs) ys)

pub spends-append : (s : ℕ) (l : OutboundSession) (xs ys : List AddressedStep)
    → spends s l (xs ++ ys) ≡ spends s l xs || spends s (outbound_after s l xs) ys
spends-append s l xs ys = ap (pass_limit l) (steps_of-append s xs ys)
    ∙ pass_limit-append l (steps_of s xs) (steps_of s ys)
