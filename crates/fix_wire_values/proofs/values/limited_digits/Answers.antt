use Rattle.std.proofs.Common.{arith}
use Rattle.std.proofs.lemmas.Grind.{common_steps}
use Rattle.fix_wire_values.proofs.SpelledNumbers.{number_of_more}
use Rattle.fix_wire_values.proofs.values.limited_digits.Goals as goal

pub loop-b-preserved : goal.loop-b-preserved
loop-b-preserved c =
    let e = number_of_more c.args.text.now c.loop-b.b-index (omega arith) in
    (grind (arith, common_steps), omega (arith, e, c.loop-b.invariant.1, c.min-value.ensures, c.from.ensures))
