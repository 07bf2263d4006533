use Rattle.std.proofs.Common.{◌≡◌, ◌≢◌, List, ℕ, [], ◌∷◌, ap, sym, ◌∙◌, refl, codes}
use Rattle.fix_wire.specs.declared.writer.Field.{Field}
use Rattle.fix_wire.specs.declared.writer.Value.{Value}
use Rattle.spread_report_outbound.specs.code.Addressed.{numbered_message}
use Rattle.spread_report.specs.code.Reports.{place_field}
use Rattle.spread_report_fields.specs.code.Fields.{text_field, number_field}
use Rattle.spread_report_outbound.proofs.MoreMessages.{sends_same}
use Rattle.std.proofs.lemmas.Bool.{ne_eqb}
use Rattle.spread_report.proofs.admin.send_cancel_reject.Goals.{then-refusal-eq0, else-refusal-eq0}
use Rattle.spread_report.proofs.admin.send_cancel_reject.Goals as goal

abbrev with_37 : Value → Field
with_37 v = record { tag = 37; value = v }

named_none : (p : ℕ) → p ≡ 0 → place_field p ≡ text_field 37 (codes "NONE")
named_none p e = rw e refl

named_place : (p : ℕ) → p ≢ 0 → place_field p ≡ number_field 37 p
named_place p h = rw (ne_eqb p 0 h) refl

pub returns : goal.returns
returns g c =
    let named : with_37 c.if-refusal-eq0.named ≡ place_field c.args.refusal.place =
    elim c.if-refusal-eq0.branch [
      | then-refusal-eq0 w ↦ ap with_37 w.named-is ∙ (ap (λ (t : List ℕ). text_field 37 t) w.of.ensures
          ∙ sym (named_none c.args.refusal.place w.if-refusal-eq0.true))
      | else-refusal-eq0 w ↦ ap with_37 w.named-is ∙ sym (named_place c.args.refusal.place w.if-refusal-eq0.false)
    ] in
    let q = c.args.request.now in
    let message = λ (f : Field). numbered_message q.session 57
    (f ∷ text_field 11 q.id.now ∷ text_field 41 q.original.now ∷ number_field 39 c.args.refusal.status ∷
    number_field 434 c.args.refusal.response_to ∷ number_field 102 c.args.refusal.reason ∷ []) ∷ [] in
    sends_same c.args.outbox.now c.send.new.self
    (message (with_37 c.if-refusal-eq0.named)) (message (place_field c.args.refusal.place)) c.send.result
    (ap message named) c.send.ensures.sent
