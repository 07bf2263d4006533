use Rattle.std.proofs.Common.{◌≡◌, ◌∙◌, ◌≤◌, ◌<◌, ◌*◌, ◌+◌, ◌-◌, ◌++◌, false, true, ap, sym, refl, arith, subst, take, drop, length, take-add}
use Rattle.std.proofs.lemmas.List.{take_more_set, take_all, length-set}
use Rattle.gate_link_stages.specs.Pieces.{bytes_in, bytes_of_piece, is_mark}
use Rattle.gate_link_stages.specs.declared.post.TheConstants.{POSTED_BYTES, MAX_POSTED_PIECES}
use Rattle.gate_link_stages.specs.Marks.{ends}
use Rattle.gate_link_stages.proofs.Marks.{ends_more}
use Rattle.gate_link_stages.proofs.Pieces.{bytes_one}
use Rattle.gate_link_stages.proofs.post.put_pieces.Goals as goal

pub loop-done-init : goal.loop-done-init
loop-done-init c = record {
  long = c.told-pieces;
  within = omega arith;
  level = λ lt. refl;
  few = λ k h. omega arith;
  gave = refl;
  plain = refl;
}

pub loop-done-preserved : goal.loop-done-preserved
loop-done-preserved c =
    let was = c.loop-done.invariant in
    let items = c.loop-done.pieces in
    let count = c.loop-done.count in
    let done = c.loop-done.done in
    let bytes = c.args.bytes.now in
    let p = c.put_piece.new.piece in
    let n = c.min-n.result in
    let lt : done < length bytes = c.loop-done-test.true in
    let level : done ≡ count * POSTED_BYTES = was.level lt in
    let whole : length bytes ≤ MAX_POSTED_PIECES * POSTED_BYTES = c.requires in
    let free : count < length items = let long = was.long in omega (arith, lt, level, whole, long) in
    let more = take_more_set items count p free in
    let size : done + n - done ≡ n = omega arith in
    let joined : bytes_in (take count items) ++ bytes_of_piece p ≡ take (done + n) bytes =
    ap (λ t. t ++ bytes_of_piece p) was.gave ∙ (ap (λ t. take done bytes ++ t)
    (c.put_piece.ensures.bytes ∙ ap (λ k. take k (drop done bytes)) size) ∙ sym (take-add done n bytes)) in
    record {
      long = length-set items count p ∙ was.long;
      within = omega (arith, c.min-n.ensures, lt);
      level = λ rest. omega (arith, c.min-n.ensures, level, rest);
      few = λ k h. omega (arith, lt, level, h);
      gave = ap bytes_in more ∙ (bytes_one (take count items) p ∙ joined);
      plain = subst (λ (xs : _). ends is_mark xs false ≡ true) (sym more)
          (ends_more is_mark (take count items) p was.plain c.put_piece.ensures.plain);
    }

pub returns-clause-count : goal.returns-clause-count
returns-clause-count c = c.loop-done.invariant.few MAX_POSTED_PIECES c.requires

pub returns-clause-bytes : goal.returns-clause-bytes
returns-clause-bytes c =
    let was = c.loop-done.invariant in
    let end = c.loop-done-test.false in
    was.gave ∙ take_all c.loop-done.done c.args.bytes.now (omega (arith, end))
