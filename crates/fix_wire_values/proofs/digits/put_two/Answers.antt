use Rattle.std.proofs.Common.{◌++◌, ◌∷◌, [], take, ap, ◌∙◌}
use Rattle.fix_wire_values.proofs.Appended.{step}
use Rattle.fix_wire_values.proofs.PairsOfDigits.{tens_at, ones_at}
use Rattle.fix_wire_values.proofs.digits.put_two.Goals as goal

pub returns-clause-text : goal.returns-clause-text
returns-clause-text c =
    let tens = c.put_byte-rest.ensures.text ∙ ap (λ d. take c.args.at c.args.room.now ++ d ∷ []) (tens_at c.args.number)
    in
    let ones = c.put_byte.ensures.text ∙ ap (λ d. take c.put_byte-rest.result c.put_byte-rest.new.room ++ d ∷ [])
    (ones_at c.args.number) in
    step _ _ _ _ _ ones tens
