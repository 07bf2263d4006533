use Rattle.std.proofs.Common.{◌≡◌, ◌≤◌, ◌+◌, ◌++◌, ◌∷◌, [], ℕ, List, length, take, sym, subst, ◌∙◌, ap, arith}
use Rattle.std.proofs.lemmas.List.{take_more}
use Rattle.std.proofs.lemmas.Result.{IfOk-at_ok}
use Rattle.spread_rules.specs.declared.event.Entry.{Entry}
use Rattle.apply_desk.specs.Sending.{HasReported, behind}
use Rattle.apply_desk.proofs.HandedOn.{behind_length}
use Rattle.tests_days.proofs.host.reported.report_all.Goals as goal

pub apply-requires-clause-reported : goal.apply-requires-clause-reported
apply-requires-clause-reported g c = (
  λ s. [],
  (
    take c.loop-entry.entry-index c.args.journal.now,
    c.loop-entry.invariant,
  ),
)

pub loop-entry-preserved : goal.loop-entry-preserved
loop-entry-preserved g c =
    let journal = c.args.journal.now in
    let n = c.loop-entry.entry-index in
    let e = c.entry-item.result in
    let more : take (n + 1) journal ≡ take n journal ++ e ∷ [] = take_more journal n e c.loop-entry-test.true
    ∙ ap (λ (x : Entry). take n journal ++ x ∷ []) (sym c.entry-item.is) in
    subst (λ (es : List Entry). HasReported es c.apply.new.self) (sym more)
    (IfOk-at_ok _ c.expect.ensures c.apply.ensures.next (λ s. []) (take n journal) c.loop-entry.invariant)

-- there are sixteen sessions
sixteen : (texts : List (List ℕ)) → length (behind (λ s. []) texts) ≡ 16 → 16 ≤ length texts
sixteen texts count = omega (arith, count, behind_length (λ s. []) texts)

pub next_sent-requires : goal.next_sent-requires
next_sent-requires g c = (omega arith, sixteen c.loop-entry.reported.texts c.loop-entry.invariant.sent.count)

pub next_sent-requires-then-next_sent-eq0 : goal.next_sent-requires-then-next_sent-eq0
next_sent-requires-then-next_sent-eq0 g c = (
  omega arith,
  sixteen c.loop-entry.reported.texts c.loop-entry.invariant.sent.count,
)
