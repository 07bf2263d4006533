use Rattle.std.proofs.Common.{◌+◌, sym, ◌∙◌, arith, take, inl, inr}
use Rattle.std.proofs.lemmas.Grind.{common_steps}
use Rattle.std.proofs.lemmas.List.{length-take-le}
use Rattle.fix_wire_values.proofs.SpelledNumbers.{number_of_more, nine_digits}
use Rattle.fix_wire_values.proofs.FirstPlace.{before_more, first_here}
use Rattle.fix_wire_frames.proofs.framing.HeaderDigits.{header_found, header_without_end, header_not_spelled, too_many, other_byte}
use Rattle.fix_wire_frames.proofs.frame.header_by_byte.Goals as goal
use Rattle.fix_wire_frames.proofs.frame.header_by_byte.Goals.{then-i-eq-MAX_LENGTH_DIGITS-via-then-i-eq-MAX_LENGTH_DIGITS, then-i-eq-MAX_LENGTH_DIGITS-via-else-i-eq-MAX_LENGTH_DIGITS+then-not-is_ascii_digit}

pub returns-then-rest-i-eq-SOH : goal.returns-then-rest-i-eq-SOH
returns-then-rest-i-eq-SOH c =
    let rest = c.args.rest.now in
    let i = c.loop-i.i in
    c.header_read.ensures
    ∙ header_found rest i c.loop-i.number (first_here rest i 1 c.loop-i-test.true c.loop-i.invariant.1
    c.if-rest-i-eq-SOH.true) c.loop-i-test.true c.loop-i.invariant.0 c.loop-i.invariant.2 c.loop-i.invariant.3

pub returns-then-i-eq-MAX_LENGTH_DIGITS : goal.returns-then-i-eq-MAX_LENGTH_DIGITS
returns-then-i-eq-MAX_LENGTH_DIGITS c =
    let rest = c.args.rest.now in
    let i = c.loop-i.i in
    let before = before_more rest i 1 c.loop-i.invariant.1 c.if-rest-i-eq-SOH.false in
    header_not_spelled rest (i + 1) before (elim c.then-i-eq-MAX_LENGTH_DIGITS.branch [
      | then-i-eq-MAX_LENGTH_DIGITS-via-then-i-eq-MAX_LENGTH_DIGITS w ↦
          λ k l m. inl (too_many rest k (omega (arith, w.if-i-eq-MAX_LENGTH_DIGITS)) m)
      | then-i-eq-MAX_LENGTH_DIGITS-via-else-i-eq-MAX_LENGTH_DIGITS+then-not-is_ascii_digit w ↦
          λ k l m. inr (other_byte rest i k (sym w.is_ascii_digit.ensures.value ∙ w.if-not-is_ascii_digit.true)
          (omega arith) m)
    ])

pub overflow_mul-number : goal.overflow_mul-number
overflow_mul-number c =
    let len = length-take-le c.loop-i.i c.args.rest.now (omega (arith, c.loop-i-test.true)) in
    let few = nine_digits (take c.loop-i.i c.args.rest.now) (omega (arith, len, c.loop-i.invariant.0))
    c.loop-i.invariant.2 in
    record { fits = omega (arith, few, c.loop-i.invariant.3) }

pub overflow_add-number : goal.overflow_add-number
overflow_add-number c =
    let len = length-take-le c.loop-i.i c.args.rest.now (omega (arith, c.loop-i-test.true)) in
    let few = nine_digits (take c.loop-i.i c.args.rest.now) (omega (arith, len, c.loop-i.invariant.0))
    c.loop-i.invariant.2 in
    let byte = (c.type_inv.rest c.loop-i.i).fits in
    record { fits = omega (arith, few, byte, c.from.ensures, c.loop-i.invariant.3) }

pub loop-i-preserved : goal.loop-i-preserved
loop-i-preserved c =
    let e = number_of_more c.args.rest.now c.loop-i.i c.loop-i-test.true in (
      omega arith,
      before_more c.args.rest.now c.loop-i.i 1 c.loop-i.invariant.1 c.if-rest-i-eq-SOH.false,
      grind (arith, common_steps),
      omega (arith, e, c.loop-i.invariant.3, c.from.ensures),
    )

pub returns : goal.returns
returns c = header_without_end c.args.rest.now c.loop-i.i c.loop-i-test.false c.loop-i.invariant.1
