use Rattle.std.proofs.Common.{◌++◌, take, sym, ap, ◌∙◌}
use Rattle.fix_wire_values.proofs.Appended.{step}
use Rattle.fix_wire_values.proofs.LastTwoDigits.{three_digits, four_digits}
use Rattle.fix_wire_values.proofs.digits.put_short.Goals as goal

pub returns-then-number-lt1000-clause-text : goal.returns-then-number-lt1000-clause-text
returns-then-number-lt1000-clause-text c =
    step _ _ _ _ _ c.put_two.ensures.text c.put_byte-rest.ensures.text
    ∙ ap (λ t. take c.args.at c.args.room.now ++ t) (sym
    (three_digits c.args.number c.if-number-lt100.false c.if-number-lt1000.true))

pub returns-else-number-lt1000-clause-text : goal.returns-else-number-lt1000-clause-text
returns-else-number-lt1000-clause-text c =
    step _ _ _ _ _ c.put_two-else-number-lt1000.ensures.text c.put_two-rest.ensures.text
    ∙ ap (λ t. take c.args.at c.args.room.now ++ t) (sym
    (four_digits c.args.number c.if-number-lt1000.false c.requires.short))
