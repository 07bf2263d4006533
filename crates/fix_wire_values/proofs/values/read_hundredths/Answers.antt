use Rattle.std.proofs.Common.{◌≡◌, ◌+◌, ◌<◌, ◌≤◌, ℕ, true, List, drop, length, sym, ap, ◌∙◌, arith}
use Rattle.std.specs.List.{list_all}
use Rattle.std.proofs.lemmas.List.{drop_all, take_rest}
use Rattle.std.proofs.lemmas.Bool.Decides.{nat_tests}
use Rattle.fix_wire_values.specs.code.Digits.{is_zero}
use Rattle.fix_wire_values.proofs.Hundredths.{hundredths_is, hundredths_at, digits_some, digits_is_some}
use Rattle.fix_wire_values.proofs.values.read_hundredths.Goals as goal
use Rattle.fix_wire_values.proofs.values.read_hundredths.Goals.{else-is_empty-via-then-is_empty+else-is_empty-2, else-is_empty-via-else-is_empty, else-part-gt2-via-then-part-gt2+else-not-all_zeros, else-part-gt2-via-else-part-gt2}

pub returns : goal.returns
returns c =
    let whole = c.at_point.result.0.now in
    let part = c.at_point.result.1.now in
    let w = digits_some whole c.in-Some.units c.in-Some.ensures in
    let p = digits_is_some part c.limited_digits-2.result c.is_none.result c.limited_digits-2.ensures c.is_none.ensures
    c.if-is_none.false in
    let some : 0 < length whole + length part = elim c.else-is_empty.branch [
      | else-is_empty-via-then-is_empty+else-is_empty-2 v ↦ grind (arith, nat_tests)
      | else-is_empty-via-else-is_empty v ↦ grind (arith, nat_tests)
    ] in
    let zeros : list_all is_zero (drop 2 part) ≡ true = elim c.else-part-gt2.branch [
      | else-part-gt2-via-then-part-gt2+else-not-all_zeros v ↦
          sym (ap (λ (x : List ℕ). list_all is_zero x) (take_rest part 2)) ∙ sym v.all_zeros.ensures
          ∙ v.if-not-all_zeros.false
      | else-part-gt2-via-else-part-gt2 v ↦ let short : length part ≤ 2 = omega arith in rw (drop_all 2 part short)
    ] in
    c.within.ensures ∙ hundredths_is whole part c.in-Some.units c.cents.result w.0 p some zeros w.1
    c.cents.ensures.value ∙ hundredths_at c.args.text.now whole part c.at_point.ensures.whole
    c.at_point.ensures.part
