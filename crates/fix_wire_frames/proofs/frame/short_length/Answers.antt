use Rattle.std.proofs.Common.{◌+◌, ◌*◌, sym, arith}
use Rattle.fix_wire_frames.proofs.framing.ShortLength.{three_digits_summed}
use Rattle.fix_wire_frames.proofs.frame.short_length.Goals as goal

pub returns : goal.returns
returns c =
    three_digits_summed c.args.rest.now (c.from.result * 100 + c.from-2.result * 10 + c.from-3.result)
    (omega (arith, c.if-rest-lt4.false)) c.if-rest-ne-SOH.false
    (sym c.if-not-is_ascii_digit.ensures.value) (sym c.if-not-is_ascii_digit-2.ensures.value)
    (omega (arith, c.from.ensures, c.from-2.ensures, c.from-3.ensures)) (omega (arith, c.if-sum.false))
    (omega (arith, c.if-sum-2.false))
