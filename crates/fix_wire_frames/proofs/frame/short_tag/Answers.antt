use Rattle.std.proofs.Common.{arith}
use Rattle.fix_wire_frames.proofs.fields.ShortTags.{two_digits_left}
use Rattle.fix_wire_frames.proofs.frame.short_tag.Goals as goal

pub returns-clause-field : goal.returns-clause-field
returns-clause-field c =
    two_digits_left c.args.text.now c.from-tens.result c.from-units.result (omega (arith, c.if-text-lt3.false))
    (λ i. (c.type_inv.text i).fits) c.from-tens.ensures c.from-units.ensures c.if-text-ne61.false
    c.if-units-gt9.false
    c.if-number-lt10.false c.if-number-gt99.false
