use Rattle.std.proofs.Common.{◌+◌, ◌++◌, ◌∷◌, [], take, ap, ◌∙◌, arith}
use Rattle.fix_wire_values.proofs.OneOrTwoDigits.{digits_at}
use Rattle.fix_wire_values.proofs.PairsOfDigits.{tens_at, ones_at}
use Rattle.fix_wire_values.proofs.digits.put_few.Goals as goal

pub returns-clause-text : goal.returns-clause-text
returns-clause-text c =
    let last = c.args.at + c.from.result in
    let first = c.put_byte.ensures.text ∙ ap (λ d. take c.args.at c.args.room.now ++ d ∷ []) (tens_at c.args.number) in
    let second = c.put_byte-2.ensures.text ∙ ap (λ d. take last c.put_byte.new.room ++ d ∷ []) (ones_at c.args.number)
    in
    digits_at c.args.number c.args.at c.put_byte.result last c.put_byte-2.result c.args.room.now c.put_byte.new.room
    c.put_byte-2.new.room
    c.requires.few (omega (arith, c.requires.within)) c.put_byte.ensures.end (ap (λ k. c.args.at + k) c.from.ensures)
    first second
