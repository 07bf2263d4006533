use Rattle.std.proofs.Common.{◌≡◌, ◌++◌, ◌+◌, ◌-◌, ◌*◌, ◌/◌, ◌%◌, take, drop, length, sum, replicate, ap, ◌∙◌, arith}
use Rattle.std.proofs.lemmas.List.{length-take-le}
use Rattle.std.proofs.lemmas.Slice.{between_is}
use Rattle.fix_wire_frames.specs.Frames.{checksum_field}
use Rattle.fix_wire.proofs.writing.PartsInRoom.{front_same, sum_padded}
use Rattle.fix_wire.proofs.spelling.put_checksum.Goals as goal

pub returns-clause-text : goal.returns-clause-text
returns-clause-text c =
    let room = c.args.room.now in
    let padded = c.put.new.room in
    let start = c.args.start in
    let end = c.args.end in
    let n = (end - start + 32 - 1) / 32 * 32 in
    let size : length (take end room) ≡ end = length-take-le end room (omega (arith, c.requires.within)) in
    let front : take end padded ≡ take end room = front_same padded (take end room) (replicate 32 0) end c.put.result
    c.put.ensures.text size (omega (arith, c.put.ensures.end)) in
    let zeros : take (end + 32) padded ≡ take end room
    ++ replicate 32 0 = ap (λ k. take k padded) (omega (arith, c.put.ensures.end)) ∙ c.put.ensures.text in
    let part : sum (take (start + n - start) (drop start padded)) ≡ sum (drop start (take end room)) =
    ap sum (between_is padded start (start + n))
    ∙ sum_padded padded room start end 32 n zeros (omega (arith, c.requires.within)) c.requires.start
    (omega (arith, c.requires.start)) (omega (arith, c.requires.start)) in
    c.put-2.ensures.text
    ∙ ap (λ t. t ++ c.checksum_digits.result) front
    ∙ ap (λ t. take end room ++ t) (c.checksum_digits.ensures
    ∙ ap checksum_field (c.checksum-sum.ensures ∙ ap (λ s. s % 256) part))
