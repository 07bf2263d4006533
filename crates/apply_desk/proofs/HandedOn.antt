-- The sessions' texts behind what was handed on of them before.
use Rattle.std.proofs.Common.{refl, ◌≡◌, ◌∙◌, sym, ap, subst, ℕ, zero, suc, ◌<◌, List, [], ◌∷◌, ◌++◌, length, arith, append_assoc}
use Rattle.spread_rules.specs.declared.event.Entry.{Entry}
use Rattle.spread_report_outbound.specs.code.Sessions.{OutboundState, session_text}
use Rattle.spread_report.specs.Running.{HasSent}
use Rattle.spread_report.proofs.entries.OneEntryMore.{sent_same}
use Rattle.apply_market.specs.Application.{Application, HasApplied, rules_of}
use Rattle.apply_desk.specs.Applied.{applied_entries}
use Rattle.apply_desk.specs.Sending.{Sending, HasReportedBehind, behind, sending_rules, stamp_of}

pub behind_length : (before : ℕ → List ℕ) (texts : List (List ℕ)) → length (behind before texts) ≡ length texts
behind_length before [] = refl
behind_length before (t ∷ ts) = ap suc (behind_length (λ s. before (suc s)) ts)

pub behind_at : (before : ℕ → List ℕ) (texts : List (List ℕ)) (s : ℕ) → s < length texts
    → session_text (behind before texts) s ≡ before s ++ session_text texts s
behind_at before [] s low = absurd (omega (arith, low))
behind_at before (t ∷ ts) zero low = refl
behind_at before (t ∷ ts) (suc s) low = behind_at (λ k. before (suc k)) ts s (omega (arith, low))

-- where nothing was handed on they are the texts
pub behind_none : (texts : List (List ℕ)) → behind (λ s. []) texts ≡ texts
behind_none [] = refl
behind_none (t ∷ ts) = ap (λ (x : List (List ℕ)). t ∷ x) (behind_none ts)

-- each session was sent something more
pub behind_more : (before : ℕ → List ℕ) (texts new : List (List ℕ)) (more : ℕ → List ℕ) → length texts ≡ 16
    → length new ≡ 16
    → ((s : ℕ) → s < 16 → session_text new s ≡ session_text texts s ++ more s)
    → (s : ℕ) → s < 16 → session_text (behind before new) s ≡ session_text (behind before texts) s ++ more s
behind_more before texts new more n m sent s low =
    behind_at before new s (omega (arith, m, low))
    ∙ (ap (λ (t : List ℕ). before s ++ t) (sent s low)
    ∙ (sym (append_assoc (before s) (session_text texts s) (more s))
    ∙ ap (λ (t : List ℕ). t ++ more s) (sym (behind_at before texts s (omega (arith, n, low))))))

-- what was sent stays what it was where bytes are handed on
pub handed_on : (before after : ℕ → List ℕ) (es : List Entry) (a b : Sending) → HasReportedBehind before es a
    → b.applied ≡ a.applied → b.desk ≡ a.desk → length b.texts ≡ length a.texts
    → ((s : ℕ) → after s ++ session_text b.texts s ≡ before s ++ session_text a.texts s)
    → HasReportedBehind after es b
handed_on before after es a b was applied desk count moved =
    let rules = sending_rules a in
    let stamp = stamp_of a in
    let ws = applied_entries rules es in
    let n : length a.texts ≡ 16 = sym (behind_length before a.texts) ∙ was.sent.count in
    let m : length b.texts ≡ 16 = count ∙ n in
    let sent : HasSent rules stamp 1 ws b.desk (behind after b.texts) =
    sent_same rules stamp 1 ws a.desk b.desk (behind before a.texts) (behind after b.texts) was.sent desk
    (behind_length after b.texts ∙ m)
    (λ s low. behind_at after b.texts s (omega (arith, m, low))
    ∙ (moved s ∙ sym (behind_at before a.texts s (omega (arith, n, low))))) in
    record {
      applied = subst (HasApplied es) (sym applied) was.applied;
      sent =
          subst (λ (t : List ℕ). HasSent (sending_rules b) t 1 (applied_entries (sending_rules b) es) b.desk
          (behind after b.texts)) (sym (ap (λ (d : OutboundState). d.stamp) desk))
          (subst (λ (x : Application). HasSent (rules_of x) stamp 1 (applied_entries (rules_of x) es) b.desk
          (behind after b.texts)) (sym applied) sent);
    }
