use Rattle.std.proofs.Common.{rules, ◌≡◌, ◌+◌, ◌≤◌, drop, length, sym, ap, ◌∙◌, arith}
use Rattle.std.specs.List.{position_or_len}
use Rattle.std.proofs.lemmas.List.{take_rest, drop-drop, length-drop}
use Rattle.memchr.specs.Find.{is_byte}
use Rattle.fix_wire_frames.specs.Held.{from_first_start}
use Rattle.fix_wire_frames.proofs.fields.RowOfFields.{place_within}
use Rattle.fix_wire_frames.proofs.framing.FrameStarts.{skip_to_begin}
use Rattle.fix_wire_frames.proofs.frame.next_begin.Goals as goal

place_of_rest : (c : goal.After-place_of) → c.place_of.result ≡ position_or_len (is_byte 56) (drop 1 c.args.text.now)
place_of_rest c = c.place_of.ensures ∙ ap (position_or_len (is_byte 56)) (take_rest c.args.text.now 1)

below : (c : goal.After-place_of) → c.place_of.result + 1 ≤ length c.args.text.now
below c =
    let e = place_of_rest c in
    let within = place_within (is_byte 56) (drop 1 c.args.text.now) in
    let len = length-drop 1 c.args.text.now in
    let some = c.requires in
    omega (arith, e, within, len, some)

pub overflow_add-result : goal.overflow_add-result
overflow_add-result c = let b = below c in search (rules, b)

pub returns-clause-within : goal.returns-clause-within
returns-clause-within c = let b = below c in omega (arith, b)

pub returns-clause-skipped : goal.returns-clause-skipped
returns-clause-skipped c =
    ap from_first_start (sym (drop-drop c.place_of.result 1 c.args.text.now))
    ∙ skip_to_begin (drop 1 c.args.text.now) c.place_of.result (place_of_rest c)
