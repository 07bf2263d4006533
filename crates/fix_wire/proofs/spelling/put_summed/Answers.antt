use Rattle.std.proofs.Common.{◌++◌, ◌-◌, ◌≡◌, ◌≤◌, ◌∷◌, [], take, length, decimal, ap, ◌∙◌, arith}
use Rattle.std.proofs.lemmas.List.{length-take-le}
use Rattle.fix_wire_frames.specs.Frames.{begin_text}
use Rattle.fix_wire.specs.Spelling.{spelled_body}
use Rattle.fix_wire_values.proofs.Appended.{step}
use Rattle.fix_wire.proofs.writing.PartsInRoom.{ends, front_same, counted, behind, open_text}
use Rattle.fix_wire.proofs.spelling.put_summed.Goals as goal

pub returns-then-count-lt1000-clause-text : goal.returns-then-count-lt1000-clause-text
returns-then-count-lt1000-clause-text g c =
    let body = spelled_body c.args.head.now (g.B.Body.fields c.args.body.now) in
    let start = length-take-le c.args.start c.args.room.now (omega (arith, c.requires.within)) in
    let count : c.put_body-end.result - c.put-first.result ≡ length body = omega (arith, c.put_body-end.ensures.end) in
    counted (take c.args.start c.args.room.now) c.put_body-end.new.room c.set_three.new.room body c.args.start
    c.put_body-end.result (c.put_body-end.result - c.put-first.result)
    (step _ _ _ _ _ c.put_body-end.ensures.text c.put-first.ensures.text) start c.set_three.ensures count
    c.if-count-ge100.true c.if-count-lt1000.true

pub returns-clause-text : goal.returns-clause-text
returns-clause-text g c =
    let body = spelled_body c.args.head.now (g.B.Body.fields c.args.body.now) in
    let o = take c.args.start c.args.room.now in
    let start = length-take-le c.args.start c.args.room.now (omega (arith, c.requires.within)) in
    let n = c.put_body-end.result - c.put-first.result in
    let count : c.put_body-end.result - c.put-first.result ≡ length body = omega (arith, c.put_body-end.ensures.end) in
    let less : c.args.start ≤ c.put_body-end.result = omega (arith, c.put-first.ensures.end, c.put_body-end.ensures.end)
    in
    let first = step o (take c.put-first.result c.put-first.new.room)
    (take c.put_body-end.result c.put_body-end.new.room) open_text body c.put_body-end.ensures.text
    c.put-first.ensures.text in
    let before = front_same c.put_body-end.new.room o (open_text ++ body) c.args.start c.put_body-end.result first start
    less in
    let front = begin_text ++ (decimal n ++ 1 ∷ []) in
    behind o (take c.put_begin-second.result c.put_begin-second.new.room) (take c.put_body.result c.put_body.new.room)
    body n c.put_body.ensures.text
    (c.put_begin-second.ensures.text ∙ ap (λ t. t ++ front) before) count

pub returns-clause-least : goal.returns-clause-least
returns-clause-least g c =
    let sizes = c.put_begin-second.ensures.size ∙ c.put_body-end.ensures.size ∙ c.put-first.ensures.size in
    let second = ends c.put_begin-second.new.room c.put_body-end.new.room _ c.put_begin-second.result c.args.start
    c.put_begin-second.ensures.text
    (omega (arith, c.requires.within, c.put_begin-second.ensures.most, sizes))
    (omega (arith, c.requires.within, c.put_body-end.ensures.size, c.put-first.ensures.size)) in
    omega (arith, second, c.put_body.ensures.end)
