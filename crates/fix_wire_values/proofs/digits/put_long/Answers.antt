use Rattle.std.proofs.Common.{◌++◌, take, sym, ap, ◌∙◌}
use Rattle.fix_wire_values.proofs.Appended.{step}
use Rattle.fix_wire_values.proofs.LastTwoDigits.{four_more}
use Rattle.fix_wire_values.proofs.digits.put_long.Goals as goal

pub returns-then-number-lt100000000-clause-text : goal.returns-then-number-lt100000000-clause-text
returns-then-number-lt100000000-clause-text c =
    step _ _ _ _ _ c.put_two.ensures.text (step _ _ _ _ _ c.put_two-ones.ensures.text c.put_short-tens.ensures.text)
    ∙ ap (λ t. take c.args.at c.args.room.now ++ t) (sym (four_more c.args.number c.requires.long c.ranges.number.fits))
