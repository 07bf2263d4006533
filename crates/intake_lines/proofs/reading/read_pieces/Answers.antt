use Rattle.std.proofs.Common.{◌+◌, ◌<◌, ◌≤◌, ◌++◌, [], ℕ, List, Option, IfSome, length, take, drop, refl, sym, subst, arith, length-append}
use Rattle.std.proofs.lemmas.List.{length-take-le, length-drop, map-append}
use Rattle.std.specs.Io.KnownBytes.{Consumes}
use Rattle.std.proofs.KnownBytes.{Consumes-nil, Consumes-trans}
use Rattle.spread_rules_ends.specs.Ends.{TakesAtMost}
use Rattle.fix_wire_frames.specs.Texts.{with_soh}
use Rattle.fix_wire_frames.specs.code.Texts.{soh_for_bar}
use Rattle.intake_lines.specs.code.PiecesRead.{HasRead}
use Rattle.intake_lines.proofs.reading.read_pieces.Goals as goal
use Rattle.intake_lines.proofs.reading.read_pieces.Goals.{In-Some}

pub loop-reader-init : goal.loop-reader-init
loop-reader-init g c = (
  refl,
  omega arith,
  c.requires,
  omega (arith, c.in_ok-reader.ensures.number),
  ([], refl, Consumes-nil (g.S.Source.left c.args.source.now), c.in_ok-reader.ensures.read),
)

-- what was read before, and one read more
one_more : (g : _) (c : In-Some g) → TakesAtMost (g.S.Source.left c.args.source.now)
    (g.S.Source.left c.read_piece.new.source) (16777216 + 65536)
one_more g c =
    let before = c.loop-reader.invariant in
    let input = before.4.0 in
    let piece = c.read_piece.new.piece in
    let count = c.in-Some.count in
    let bound : count ≤ length piece = subst (λ (o : Option ℕ). IfSome o (λ n. n ≤ length piece)) c.in-Some.is
    c.in_ok-count.ensures.bound in
    let joined = length-append input (take count piece) in
    let few = length-take-le count piece bound in
    let same = c.read_piece.auto.piece in
    let room = before.0 in
    let small = before.1 in
    let taken = before.4.1 in (
      input ++ take count piece,
      omega (arith, joined, few, bound, same, room, small, taken),
      Consumes-trans _ _ _ _ _ before.4.2 (subst (λ (o : Option ℕ). IfSome o
          (λ n. Consumes (g.S.Source.left c.loop-reader.source) (g.S.Source.left c.read_piece.new.source)
          (take n piece))) c.in-Some.is c.in_ok-count.ensures.bytes),
    )

pub returns-in_err-taken-clause-taken : goal.returns-in_err-taken-clause-taken
returns-in_err-taken-clause-taken g c = one_more g (goal.at.returns-in_err-taken-clause-taken g c).In-Some

pub returns-in_err-take_piece-clause-taken : goal.returns-in_err-take_piece-clause-taken
returns-in_err-take_piece-clause-taken g c = one_more g (goal.at.returns-in_err-take_piece-clause-taken g c).In-Some

pub loop-reader-smaller : goal.loop-reader-smaller
loop-reader-smaller g c =
    let more : 0 < c.in-Some.count = subst (λ (o : Option ℕ). IfSome o (λ n. 0 < n)) c.in-Some.is
    c.in_ok-count.ensures.more in
    let below = c.in_ok-taken.ensures.bound in
    let sum = c.in_ok-taken.ensures.sum in
    omega (arith, more, below, sum)

pub loop-reader-preserved : goal.loop-reader-preserved
loop-reader-preserved g c =
    let before = c.loop-reader.invariant in
    let input = before.4.0 in
    let buf = c.read_piece.new.piece in
    let count = c.in-Some.count in
    let more = take count buf in
    let bound : count ≤ length buf = subst (λ (o : Option ℕ). IfSome o (λ n. n ≤ length buf)) c.in-Some.is
    c.in_ok-count.ensures.bound in
    let piece = before.0 in
    let small = before.1 in
    let numbered = before.3 in
    let taken = before.4.1 in
    let same = c.read_piece.auto.piece in
    let kept = c.take_piece.auto.piece in
    let few = length-take-le count buf bound in
    let joined = length-append input more in
    let whole = length-append c.take_piece.new.piece (drop count buf) in
    let behind = length-drop count buf in
    let below = c.in_ok-taken.ensures.bound in
    let sum = c.in_ok-taken.ensures.sum in
    let next = c.in_ok-take_piece.ensures.number in (
      omega (arith, whole, behind, kept, few, bound, same, piece),
      omega (arith, below, sum),
      c.in_ok-count.ensures.not_failed,
      omega (arith, next, few, numbered, sum),
      (
        input ++ more,
        omega (arith, joined, few, taken, sum),
        Consumes-trans _ _ _ _ _ before.4.2 (subst (λ (o : Option ℕ). IfSome o
            (λ n. Consumes (g.S.Source.left c.loop-reader.source) (g.S.Source.left c.read_piece.new.source)
            (take n buf))) c.in-Some.is c.in_ok-count.ensures.bytes),
        subst (λ (t : List ℕ). HasRead t c.take_piece.new.self) (sym (map-append soh_for_bar input more))
            (c.in_ok-take_piece.ensures.reads (with_soh input) before.4.3),
      ),
    )
