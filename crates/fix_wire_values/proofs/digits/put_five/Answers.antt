use Rattle.std.proofs.Common.{◌+◌, ◌/◌, ◌++◌, ◌∷◌, [], take, sym, ap, ◌∙◌}
use Rattle.fix_wire_values.specs.Digits.{two_digits}
use Rattle.fix_wire_values.proofs.Appended.{step}
use Rattle.fix_wire_values.proofs.FiveDigits.{first_is, second_is, third_is, same_two, five_digits}
use Rattle.fix_wire_values.proofs.digits.put_five.Goals as goal

pub returns-clause-text : goal.returns-clause-text
returns-clause-text c =
    let n = c.args.number in
    let o = take c.args.at c.args.room.now in
    let digit = (48 + n / 10000) ∷ [] in
    let first = c.put_byte-tens.ensures.text ∙ ap (λ d. o ++ (48 + d) ∷ []) (first_is n c.requires.five.1) in
    let second = c.put_two-ones.ensures.text ∙ ap (λ d. take c.put_byte-tens.result c.put_byte-tens.new.room ++ d)
    (ap two_digits (second_is n c.requires.five.1) ∙ same_two (n / 100)) in
    let third = c.put_two.ensures.text ∙ ap (λ d. take c.put_two-ones.result c.put_two-ones.new.room ++ d)
    (ap two_digits (third_is n c.requires.five.1) ∙ same_two n) in
    step o _ _ (digit ++ two_digits (n / 100)) (two_digits n) third
    (step o _ _ digit (two_digits (n / 100)) second first)
    ∙ ap (λ t. o ++ t) (sym (five_digits n c.requires.five.0 c.requires.five.1))
