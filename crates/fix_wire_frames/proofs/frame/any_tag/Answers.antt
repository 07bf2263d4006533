use Rattle.std.proofs.Common.{◌+◌, sym, ◌∙◌, arith, take}
use Rattle.std.proofs.lemmas.Grind.{common_steps}
use Rattle.std.proofs.lemmas.List.{length-take-le}
use Rattle.fix_wire_values.proofs.SpelledNumbers.{number_of_more, nine_digits}
use Rattle.fix_wire_values.proofs.FirstPlace.{before_more, first_here}
use Rattle.fix_wire_frames.proofs.fields.RowOfFields.{field_found, no_field, not_digits, too_long}
use Rattle.fix_wire_frames.proofs.frame.any_tag.Goals as goal
use Rattle.fix_wire_frames.proofs.frame.any_tag.Goals.{then-i-eq-MAX_TAG_DIGITS-via-then-i-eq-MAX_TAG_DIGITS, then-i-eq-MAX_TAG_DIGITS-via-else-i-eq-MAX_TAG_DIGITS+then-not-is_ascii_digit}

pub overflow_cast-result : goal.overflow_cast-result
overflow_cast-result c =
    let len = length-take-le c.loop-i.i c.args.text.now (omega (arith, c.loop-i-test.true)) in
    let few = nine_digits (take c.loop-i.i c.args.text.now) (omega (arith, len, c.loop-i.invariant.0))
    c.loop-i.invariant.2 in
    record { fits = omega (arith, few, c.loop-i.invariant.3) }

pub returns-then-text-i-eq61-clause-field : goal.returns-then-text-i-eq61-clause-field
returns-then-text-i-eq61-clause-field c =
    let text = c.args.text.now in
    let i = c.loop-i.i in
    field_found text i c.loop-i.number (first_here text i 61 c.loop-i-test.true c.loop-i.invariant.1
    c.if-text-i-eq61.true) c.loop-i-test.true c.if-i-eq0.false c.loop-i.invariant.0 c.if-text-eq48.false
    c.loop-i.invariant.2 c.loop-i.invariant.3

pub returns-then-i-eq-MAX_TAG_DIGITS-clause-field : goal.returns-then-i-eq-MAX_TAG_DIGITS-clause-field
returns-then-i-eq-MAX_TAG_DIGITS-clause-field c =
    let text = c.args.text.now in
    let i = c.loop-i.i in
    let before = before_more text i 61 c.loop-i.invariant.1 c.if-text-i-eq61.false in
    no_field text (i + 1) before (elim c.then-i-eq-MAX_TAG_DIGITS.branch [
      | then-i-eq-MAX_TAG_DIGITS-via-then-i-eq-MAX_TAG_DIGITS w ↦
          λ p l m. too_long text p (omega (arith, w.if-i-eq-MAX_TAG_DIGITS)) m
      | then-i-eq-MAX_TAG_DIGITS-via-else-i-eq-MAX_TAG_DIGITS+then-not-is_ascii_digit w ↦
          λ p l m. not_digits text i p (sym w.is_ascii_digit.ensures.value ∙ w.if-not-is_ascii_digit.true) (omega arith)
          m
    ])

pub overflow_mul-number : goal.overflow_mul-number
overflow_mul-number c =
    let len = length-take-le c.loop-i.i c.args.text.now (omega (arith, c.loop-i-test.true)) in
    let few = nine_digits (take c.loop-i.i c.args.text.now) (omega (arith, len, c.loop-i.invariant.0))
    c.loop-i.invariant.2 in
    record { fits = omega (arith, few, c.loop-i.invariant.3) }

pub overflow_add-number : goal.overflow_add-number
overflow_add-number c =
    let len = length-take-le c.loop-i.i c.args.text.now (omega (arith, c.loop-i-test.true)) in
    let few = nine_digits (take c.loop-i.i c.args.text.now) (omega (arith, len, c.loop-i.invariant.0))
    c.loop-i.invariant.2 in
    let byte = (c.type_inv.text c.loop-i.i).fits in
    record { fits = omega (arith, few, byte, c.from.ensures, c.loop-i.invariant.3) }

pub loop-i-preserved : goal.loop-i-preserved
loop-i-preserved c =
    let e = number_of_more c.args.text.now c.loop-i.i c.loop-i-test.true in (
      omega arith,
      before_more c.args.text.now c.loop-i.i 61 c.loop-i.invariant.1 c.if-text-i-eq61.false,
      grind (arith, common_steps),
      omega (arith, e, c.loop-i.invariant.3, c.from.ensures),
    )

pub returns-clause-field : goal.returns-clause-field
returns-clause-field c =
    no_field c.args.text.now c.loop-i.i c.loop-i.invariant.1 (λ p l m. absurd (omega (arith, c.loop-i-test.false)))
