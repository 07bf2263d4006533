use Rattle.std.proofs.Common.{◌≡◌, ℕ, ◌+◌, ◌++◌, ◌∷◌, [], Err, List, length, take, drop, sym, subst, ◌∙◌, ap, Vec}
use Rattle.std.proofs.lemmas.List.{take_at}
use Rattle.spread_rules_rulebook.specs.Rulebook.{Rules}
use Rattle.spread_report.specs.Outgoing.{AppliedEntry}
use Rattle.spread_report.specs.code.PerSession.{applied_at}
use Rattle.spread_report.specs.Running.{HasSent, RunsOut}
use Rattle.spread_report_outbound.specs.code.Sessions.{texts_of}
use Rattle.spread_report.proofs.entries.OneEntryMore.{sent_more}
use Rattle.apply_market.specs.Application.{rules_of}
use Rattle.apply_desk.specs.Applied.{applied_entries}
use Rattle.apply_desk.specs.code.Applied.{IsApplyFault}
use Rattle.apply_desk.specs.Sending.{Sending, HasReportedBehind, behind, fault_at, sending_rules}
use Rattle.apply_desk.proofs.HandedOn.{behind_length, behind_more}
use Rattle.apply_desk.proofs.EntryByEntry.{CameTo, came, fault_here, texts_length}
use Rattle.apply_desk.proofs.report.ReportedEntries.apply.Goals as goal

pub outgoing-requires-clause-lists : goal.outgoing-requires-clause-lists
outgoing-requires-clause-lists g c =
    let inside = c.self.inside in
    let lists = inside.out.items in
    let s : Sending = record { applied = inside.applied; desk = inside.desk; texts = texts_of lists } in
    let before = c.requires.reported.0 in
    let was : HasReportedBehind before c.requires.reported.1.0 s =
    subst (HasReportedBehind before c.requires.reported.1.0) (sym c.self.view_is) c.requires.reported.1.1 in
    ap length c.as_mut_slice-out.ensures.value ∙ (sym (texts_length lists)
    ∙ (sym (behind_length before (texts_of lists)) ∙ was.sent.count))

pub outgoing-requires-clause-outcome : goal.outgoing-requires-clause-outcome
outgoing-requires-clause-outcome g c =
    let inside = c.self.inside in
    let s : Sending = record { applied = inside.applied; desk = inside.desk; texts = texts_of inside.out.items } in
    let es = c.requires.reported.1.0 in
    let was : HasReportedBehind c.requires.reported.0 es s =
    subst (HasReportedBehind c.requires.reported.0 es) (sym c.self.view_is) c.requires.reported.1.1 in
    (came c.requires.reported.0 es c.args.entry.now c.in_ok-outcome.outcome c.last_fills-fills.result.now s
    c.apply.new.self inside.rulebook.now c.self.invariant was c.requires.fits c.in_ok-outcome.ensures.next
    c.in_ok-outcome.ensures.rules c.last_fills-fills.ensures).fits_outcome

pub outgoing-requires-clause-fills : goal.outgoing-requires-clause-fills
outgoing-requires-clause-fills g c =
    let inside = c.self.inside in
    let s : Sending = record { applied = inside.applied; desk = inside.desk; texts = texts_of inside.out.items } in
    let es = c.requires.reported.1.0 in
    let was : HasReportedBehind c.requires.reported.0 es s =
    subst (HasReportedBehind c.requires.reported.0 es) (sym c.self.view_is) c.requires.reported.1.1 in
    (came c.requires.reported.0 es c.args.entry.now c.in_ok-outcome.outcome c.last_fills-fills.result.now s
    c.apply.new.self inside.rulebook.now c.self.invariant was c.requires.fits c.in_ok-outcome.ensures.next
    c.in_ok-outcome.ensures.rules c.last_fills-fills.ensures).fits_fills

pub returns-in-Err-clause-fault : goal.returns-in-Err-clause-fault
returns-in-Err-clause-fault g c before es had =
    let inside = c.self.inside in
    let rules = inside.rulebook.now in
    let e = c.args.entry.now in
    let outcome = c.in_ok-outcome.outcome in
    let fills = c.last_fills-fills.result.now in
    let texts = texts_of inside.out.items in
    let s : Sending = record { applied = inside.applied; desk = inside.desk; texts = texts } in
    let was : HasReportedBehind before es s = subst (HasReportedBehind before es) (sym c.self.view_is) had in
    let x : CameTo rules es e outcome fills = came before es e outcome fills s c.apply.new.self rules c.self.invariant
    was c.requires.fits c.in_ok-outcome.ensures.next c.in_ok-outcome.ensures.rules c.last_fills-fills.ensures in
    let place : c.count-place.result ≡ length es + 1 = c.count-place.ensures
    ∙ (c.in_ok-outcome.ensures.count ∙ ap (λ (n : ℕ). n + 1) was.applied.count) in
    let all = behind before texts in
    let sent : HasSent rules inside.desk.stamp 1 (applied_entries rules es) inside.desk all =
    subst (λ (r : Rules). HasSent r inside.desk.stamp 1 (applied_entries r es) inside.desk all) c.self.invariant
    was.sent in
    let here = fault_here rules es e outcome fills inside.desk all c.in-Err.fault x sent
    (λ is. subst (λ (k : ℕ). RunsOut rules inside.desk.sessions (applied_at k e outcome fills)) place
    (c.in-Err.ensures.spent (ap Err is))) in
    let read : rules ≡ sending_rules c.args.self.now = sym c.self.invariant ∙ ap sending_rules c.self.view_is in
    subst (IsApplyFault (sending_rules c.args.self.now) (es ++ e ∷ [])) (sym c.fault_at.ensures)
    (subst (λ (k : ℕ). IsApplyFault (sending_rules c.args.self.now) (es ++ e ∷ []) (fault_at k c.in-Err.fault))
    (sym place)
    (subst (λ (r : Rules). IsApplyFault r (es ++ e ∷ []) (fault_at (length es + 1) c.in-Err.fault)) read here))

pub returns-clause-next : goal.returns-clause-next
returns-clause-next g c before es had =
    let inside = c.self.inside in
    let rules = inside.rulebook.now in
    let e = c.args.entry.now in
    let outcome = c.in_ok-outcome.outcome in
    let fills = c.last_fills-fills.result.now in
    let stamp = inside.desk.stamp in
    let old = c.as_mut_slice-out.result.now in
    let new = c.outgoing.new.lists in
    let desk = c.outgoing.new.self in
    let send = c.in_default.ensures in
    let s : Sending = record { applied = inside.applied; desk = inside.desk; texts = texts_of inside.out.items } in
    let was : HasReportedBehind before es s = subst (HasReportedBehind before es) (sym c.self.view_is) had in
    let next = c.in_ok-outcome.ensures.next es was.applied in
    let x : CameTo rules es e outcome fills = came before es e outcome fills s c.apply.new.self rules c.self.invariant
    was c.requires.fits c.in_ok-outcome.ensures.next c.in_ok-outcome.ensures.rules c.last_fills-fills.ensures in
    let place : c.count-place.result ≡ length es + 1 = c.count-place.ensures
    ∙ (c.in_ok-outcome.ensures.count ∙ ap (λ (n : ℕ). n + 1) was.applied.count) in
    let base : HasSent rules stamp 1 (applied_entries rules es) inside.desk (behind before (texts_of old)) =
    subst (λ (lists : List (Vec ℕ g.row.A.Denot)). HasSent rules stamp 1 (applied_entries rules es) inside.desk
    (behind before (texts_of lists))) (sym c.as_mut_slice-out.ensures.value)
    (subst (λ (r : Rules). HasSent r stamp 1 (applied_entries r es) inside.desk
    (behind before (texts_of inside.out.items))) c.self.invariant was.sent) in
    let w = applied_at c.count-place.result e outcome fills in
    let count : length (texts_of new) ≡ 16 = texts_length new ∙ send.count in
    let more : HasSent rules stamp 1 (applied_entries rules es ++ w ∷ []) desk (behind before (texts_of new)) =
    sent_more rules stamp 1 (applied_entries rules es) inside.desk desk (behind before (texts_of old))
    (behind before (texts_of new)) base w send.stamp (behind_length before (texts_of new) ∙ count)
    (behind_more before (texts_of old) (texts_of new) _ (sym (behind_length before (texts_of old)) ∙ base.count) count
    send.bytes) send.outbound send.unspent send.whole in
    let entries : applied_entries rules es ++ w ∷ [] ≡ applied_entries rules (es ++ e ∷ []) =
    ap (λ (k : ℕ). applied_entries rules es ++ applied_at k e outcome fills ∷ []) place ∙ sym x.entries in
    let read : rules ≡ rules_of c.apply.new.self = sym (c.in_ok-outcome.ensures.rules ∙ c.self.invariant) in
    let lists : texts_of new ≡ texts_of (take inside.out.len (new ++ drop (length new) inside.out.items)) =
    ap (λ (l : List (Vec ℕ g.row.A.Denot)). texts_of l)
    (sym (take_at new (drop (length new) inside.out.items) inside.out.len
    (send.count ∙ (sym (sym (texts_length inside.out.items)
    ∙ (sym (behind_length before (texts_of inside.out.items)) ∙ was.sent.count)) ∙ sym inside.out.ok.0)))) in
    record {
      applied = next.applied;
      sent =
          subst (λ (ts : List (List ℕ)). HasSent (rules_of c.apply.new.self) desk.stamp 1
          (applied_entries (rules_of c.apply.new.self) (es ++ e ∷ [])) desk (behind before ts)) lists
          (subst (λ (r : Rules). HasSent r desk.stamp 1 (applied_entries r (es ++ e ∷ [])) desk
          (behind before (texts_of new))) read
          (subst (λ (t : List ℕ). HasSent rules t 1 (applied_entries rules (es ++ e ∷ [])) desk
          (behind before (texts_of new))) (sym send.stamp)
          (subst (λ (ws : List AppliedEntry). HasSent rules stamp 1 ws desk (behind before (texts_of new))) entries
          more)));
    }
