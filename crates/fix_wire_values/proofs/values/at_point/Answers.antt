use Rattle.std.proofs.Common.{◌+◌, length, sym, arith}
use Rattle.std.proofs.lemmas.Grind.{common_steps}
use Rattle.std.proofs.lemmas.List.{take_all, take_rest}
use Rattle.fix_wire_values.specs.code.Digits.{is_point}
use Rattle.fix_wire_values.proofs.FirstPlace.{place_found, place_not_found}
use Rattle.fix_wire_values.proofs.values.at_point.Goals as goal

pub returns-in-Some-clause-whole : goal.returns-in-Some-clause-whole
returns-in-Some-clause-whole c = let p = place_found is_point c.args.text.now c.in-Some.at c.in-Some.ensures in rw p.0

pub returns-in-Some-clause-part : goal.returns-in-Some-clause-part
returns-in-Some-clause-part c = let p = place_found is_point c.args.text.now c.in-Some.at c.in-Some.ensures in
    rw p.0 (take_rest c.args.text.now (c.in-Some.at + 1))

pub returns-in-None-clause-whole : goal.returns-in-None-clause-whole
returns-in-None-clause-whole c = let p = place_not_found is_point c.args.text.now c.in-None.ensures in
    rw p (sym (take_all (length c.args.text.now) c.args.text.now (omega arith)))

pub returns-in-None-clause-part : goal.returns-in-None-clause-part
returns-in-None-clause-part c = let p = place_not_found is_point c.args.text.now c.in-None.ensures in
    rw p (grind (arith, common_steps))
