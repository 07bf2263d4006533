use Rattle.std.proofs.Common.{◌≡◌, ◌+◌, ◌-◌, ◌++◌, take, drop, ap, ◌∙◌, sym, arith}
use Rattle.std.proofs.lemmas.List.{take_rest, take_all, length-drop}
use Rattle.fix_wire_frames.specs.code.Marked.{marks_of, zeros}
use Rattle.fix_wire_frames.proofs.texts.MarkedPlaces.{zeros_none, none_to_end, none_up_to, first_of_marks, marked_behind}
use Rattle.fix_wire_frames.proofs.marks.next_soh.Goals as goal
use Rattle.fix_wire_frames.proofs.marks.next_soh.Goals.{then-text-at-ge-BLOCK_BYTES, else-text-at-ge-BLOCK_BYTES}

pub returns-then-marks-text-clause-place : goal.returns-then-marks-text-clause-place
returns-then-marks-text-clause-place c =
    let l = c.loop-marks in
    let none = zeros_none (l.at + 64 - l.marks.next) _ (sym l.invariant.1.bits ∙ c.loop-marks-test.true) in
    none_to_end c.args.text.now l.at l.marks.next l.invariant.0 c.if-marks-text.true none ∙ l.invariant.2

pub loop-marks-preserved : goal.loop-marks-preserved
loop-marks-preserved c =
    let l = c.loop-marks in
    let text = c.args.text.now in
    let at = c.loop-marks.marks.next in
    let size : (c.loop-marks.marks.next + 64) - c.loop-marks.marks.next ≡ 64 = omega arith in
    let front : c.loop-marks.marks.next + 64 - (c.loop-marks.marks.next + 64) ≡ 0 = omega arith in
    let none = zeros_none (l.at + 64 - l.marks.next) _ (sym l.invariant.1.bits ∙ c.loop-marks-test.true) in
    let block : c.if-text-at-ge-BLOCK_BYTES.marks ≡ marks_of (take 64 (drop c.loop-marks.marks.next c.args.text.now)) =
    elim c.if-text-at-ge-BLOCK_BYTES.branch [
      | then-text-at-ge-BLOCK_BYTES w ↦ w.marks-is ∙ w.marks_at-marks.ensures
      | else-text-at-ge-BLOCK_BYTES w ↦
          w.marks-is ∙ w.marks_of_rest-marks.ensures ∙ ap marks_of (take_rest text at)
          ∙ ap marks_of (sym (take_all 64 (drop at text) (omega
          (arith, length-drop at text, w.if-text-at-ge-BLOCK_BYTES.false))))
    ] in (
      omega (arith, c.if-marks-text.false),
      record {
        order = omega arith;
        few = omega arith;
        bits = block ∙ ap (λ n. marks_of (take n (drop at text))) (sym size)
            ∙ ap (λ z. marks_of (zeros z ++ take ((at + 64) - at) (drop at text))) (sym front);
      },
      none_up_to text l.at l.marks.next l.invariant.1.order (omega (arith, c.if-marks-text.false)) none ∙ l.invariant.2,
    )

pub overflow_sub-end : goal.overflow_sub-end
overflow_sub-end c =
    let l = c.loop-marks in
    let first = first_of_marks c.args.text.now l.at l.marks.next l.marks.bits l.invariant.1.order l.invariant.1.few
    l.invariant.1.bits (omega (arith, c.loop-marks-test.false)) in
    omega (arith, first.0)

pub returns-clause-place : goal.returns-clause-place
returns-clause-place c =
    let l = c.loop-marks in
    let first = first_of_marks c.args.text.now l.at l.marks.next l.marks.bits l.invariant.1.order l.invariant.1.few
    l.invariant.1.bits (omega (arith, c.loop-marks-test.false)) in
    omega (arith, first.0, l.invariant.2)

pub returns-clause-marks : goal.returns-clause-marks
returns-clause-marks c below =
    let l = c.loop-marks in
    let text = c.args.text.now in
    let first = first_of_marks c.args.text.now l.at l.marks.next l.marks.bits l.invariant.1.order l.invariant.1.few
    l.invariant.1.bits (omega (arith, c.loop-marks-test.false)) in
    record {
      order = omega (arith, first.0, first.1);
      few = omega (arith, first.0, l.invariant.1.few);
      bits = marked_behind text l.at l.marks.next l.marks.bits _ l.invariant.1.order l.invariant.1.few
          l.invariant.1.bits (omega (arith, c.loop-marks-test.false)) (omega (arith, first.0))
          (omega (arith, first.0, first.1));
    }
