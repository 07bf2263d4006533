use Rattle.std.proofs.Common.{◌≡◌, ◌++◌, ◌+◌, ◌-◌, List, ℕ, take, drop, length, ap, ◌∙◌, arith}
use Rattle.std.proofs.lemmas.List.{length-take-le, length-drop}
use Rattle.fix_wire.proofs.writing.PartsInRoom.{front_copied}
use Rattle.fix_wire.proofs.spelling.put_parties.Goals as goal

pub returns-clause-text : goal.returns-clause-text
returns-clause-text c =
    let p = c.args.parties.now in
    let at = c.args.at in
    let room = c.args.room.now in
    let new = c.copy_from_slice.new.self in
    let k = at + 112 - at in
    let all : length new ≡ 112 = c.copy_from_slice.ensures.len
    ∙ (length-take-le k (drop at room) (omega (arith, length-drop at room, c.requires.within)) ∙ omega arith) in
    front_copied at k p.len room new (omega (arith, c.requires.within)) (omega (arith, c.requires.short, all))
    ∙ ap (λ (t : List ℕ). take at room ++ take p.len t) c.copy_from_slice.ensures.after
