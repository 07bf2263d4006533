use Rattle.std.proofs.Common.{◌≡◌, ◌<◌, Some, drop, length, refl, sym, ap, subst, ◌∙◌, arith, ℕ, List}
use Rattle.std.specs.Option.{option_copied}
use Rattle.std.proofs.lemmas.List.{take_all, length-drop}
use Rattle.fix_wire_frames.specs.code.Scans.{leading_field_view, first_field}
use Rattle.fix_wire_frames.proofs.fields.RowOfFields.{row_some, value_here, value_behind, value_none, first_some}
use Rattle.fix_wire_frames.proofs.table.value_in.Goals as goal

pub loop-rest-init : goal.loop-rest-init
loop-rest-init c = (omega arith, record { order = omega arith; few = omega arith; bits = refl }, c.requires, refl)

pub returns-in_err-field : goal.returns-in_err-field
returns-in_err-field c =
    let text = c.args.text.now in
    let rest = c.loop-rest.rest in
    let none = c.in_err-field.ensures.field ∙ ap (λ t. first_field (drop rest t))
    (take_all (length text) text (omega arith)) in
    let some : 0 < length (drop c.loop-rest.rest c.args.text.now) =
    omega (arith, length-drop rest text, c.loop-rest-test.true) in
    ap option_copied c.from_residual.ensures ∙ sym (value_none c.args.tag (drop rest text) some none)
    ∙ c.loop-rest.invariant.3

pub returns-then-field-tag : goal.returns-then-field-tag
returns-then-field-tag c =
    let text = c.args.text.now in
    let xs = drop c.loop-rest.rest c.args.text.now in
    let f = c.in_ok-field.field in
    let e = subst (λ (t : List ℕ). Some (leading_field_view t f) ≡ first_field (drop c.loop-rest.rest t))
    (take_all (length text) text (omega arith)) c.in_ok-field.ensures.field in
    let p = leading_field_view text f in
    sym (value_here c.args.tag xs p (first_some xs p e) e c.loop-rest.invariant.2 c.if-field-tag.true)
    ∙ c.loop-rest.invariant.3

pub loop-rest-preserved : goal.loop-rest-preserved
loop-rest-preserved c =
    let text = c.args.text.now in
    let xs = drop c.loop-rest.rest c.args.text.now in
    let f = c.in_ok-field.field in
    let e = subst (λ (t : List ℕ). Some (leading_field_view t f) ≡ first_field (drop c.loop-rest.rest t))
    (take_all (length text) text (omega arith)) c.in_ok-field.ensures.field in
    let p = leading_field_view text f in
    let some = first_some xs p e in (
      omega (arith, c.in_ok-field.ensures.within),
      c.in_ok-field.ensures.marks,
      row_some xs p some e ∙ c.loop-rest.invariant.2,
      sym (value_behind c.args.tag xs p some e c.loop-rest.invariant.2 c.if-field-tag.false) ∙ c.loop-rest.invariant.3,
    )
