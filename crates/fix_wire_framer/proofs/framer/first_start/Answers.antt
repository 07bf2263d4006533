use Rattle.std.proofs.Common.{ℕ, List, refl, ◌≤◌, drop, length, sym, ap, ◌∙◌, subst, arith}
use Rattle.std.proofs.lemmas.List.{take_rest, length-drop, drop-drop}
use Rattle.fix_wire_frames.specs.Frames.{frame_at, may_begin}
use Rattle.fix_wire_frames.specs.code.Tabled.{IsTableOf}
use Rattle.fix_wire_frames.specs.Held.{from_first_start}
use Rattle.fix_wire_frames.specs.code.Scans.{scan_front}
use Rattle.fix_wire_frames.proofs.framing.FramesHeld.{front_frame, front_incomplete, front_garbled, start_frame, start_partial, start_next}
use Rattle.fix_wire_frames.proofs.framing.FrontStays.{frame_within}
use Rattle.fix_wire_framer.proofs.framer.first_start.Goals as goal

pub returns-in-Frame-clause-kept : goal.returns-in-Frame-clause-kept
returns-in-Frame-clause-kept c =
    let text = drop c.loop-at.at c.args.held.now in
    let e = front_frame (frame_at text) (may_begin text) c.in-Frame.len
    (sym (c.in-Frame.ensures.front ∙ ap scan_front (take_rest c.args.held.now c.loop-at.at))) in
    sym (start_frame text c.in-Frame.len e) ∙ c.loop-at.invariant.1

pub returns-in-Frame-clause-found : goal.returns-in-Frame-clause-found
returns-in-Frame-clause-found c =
    let text = drop c.loop-at.at c.args.held.now in
    let e = front_frame (frame_at text) (may_begin text) c.in-Frame.len
    (sym (c.in-Frame.ensures.front ∙ ap scan_front (take_rest c.args.held.now c.loop-at.at))) in
    sym e ∙ ap frame_at (sym (start_frame text c.in-Frame.len e) ∙ c.loop-at.invariant.1)

pub returns-in-Frame-clause-fits : goal.returns-in-Frame-clause-fits
returns-in-Frame-clause-fits c =
    let text = drop c.loop-at.at c.args.held.now in
    let e = front_frame (frame_at text) (may_begin text) c.in-Frame.len
    (sym (c.in-Frame.ensures.front ∙ ap scan_front (take_rest c.args.held.now c.loop-at.at))) in
    let w = frame_within text c.in-Frame.len e in
    omega (arith, w.1, length-drop c.loop-at.at c.args.held.now)

pub returns-in-Frame-clause-table : goal.returns-in-Frame-clause-table
returns-in-Frame-clause-table c =
    let kept = returns-in-Frame-clause-kept c in
    λ n e. subst (λ (t : List ℕ). IsTableOf t c.scan_front.new.table) (take_rest c.args.held.now c.loop-at.at ∙ kept)
    (c.in-Frame.ensures.table c.in-Frame.len refl)

pub returns-in-Incomplete-clause-kept : goal.returns-in-Incomplete-clause-kept
returns-in-Incomplete-clause-kept c =
    let text = drop c.loop-at.at c.args.held.now in
    let e = front_incomplete (frame_at text) (may_begin text)
    (sym (c.in-Incomplete.ensures.front ∙ ap scan_front (take_rest c.args.held.now c.loop-at.at))) in
    sym (start_partial text e.0 e.1) ∙ c.loop-at.invariant.1

pub returns-in-Incomplete-clause-found : goal.returns-in-Incomplete-clause-found
returns-in-Incomplete-clause-found c =
    let text = drop c.loop-at.at c.args.held.now in
    let e = front_incomplete (frame_at text) (may_begin text)
    (sym (c.in-Incomplete.ensures.front ∙ ap scan_front (take_rest c.args.held.now c.loop-at.at))) in
    sym e.0 ∙ ap frame_at (sym (start_partial text e.0 e.1) ∙ c.loop-at.invariant.1)

pub loop-at-preserved : goal.loop-at-preserved
loop-at-preserved c =
    let at = c.loop-at.at in
    let held = c.args.held.now in
    let text = drop c.loop-at.at c.args.held.now in
    let rest = take_rest c.args.held.now c.loop-at.at in
    let k = c.next_begin-at.result in
    let e = front_garbled (frame_at text) (may_begin text) (sym (c.in-Garbled.ensures.front ∙ ap scan_front rest)) in
    let len = length-drop c.loop-at.at c.args.held.now in
    let within : c.next_begin-at.result ≤ length (drop c.loop-at.at c.args.held.now) =
    subst (λ t. c.next_begin-at.result ≤ length t) rest c.next_begin-at.ensures.within in
    let skips = ap from_first_start (sym (drop-drop k at held)) ∙ sym (ap (λ t. from_first_start (drop k t)) rest)
    ∙ c.next_begin-at.ensures.skipped ∙ ap (λ t. from_first_start (drop 1 t)) rest
    ∙ ap from_first_start (drop-drop 1 at held) in (
      omega (arith, within, len, c.loop-at-test.true),
      skips ∙ sym (start_next held at c.loop-at-test.true e.0 e.1)
          ∙ c.loop-at.invariant.1,
    )
