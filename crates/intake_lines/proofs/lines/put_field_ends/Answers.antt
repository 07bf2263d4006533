use Rattle.std.proofs.Common.{◌≡◌, ℕ, List, set, get_or, ap, ◌∙◌}
use Rattle.fix_wire_frames.specs.code.Texts.{soh_for_bar}
use Rattle.spread_rules_ids.proofs.MappedInPlace.{map_next, map_rest}
use Rattle.intake_lines.proofs.lines.put_field_ends.Goals as goal

pub loop-byte-preserved : goal.loop-byte-preserved
loop-byte-preserved c =
    let f = λ (b : ℕ). soh_for_bar b in
    let i = c.loop-byte.byte-index in
    let at : get_or c.loop-byte.text i 0 ≡ get_or c.args.text.now i 0 =
    ap (λ (xs : List ℕ). get_or xs i 0) c.loop-byte.invariant
    ∙ map_rest f c.args.text.now i 0 c.loop-byte-test.true in
    ap (λ (b : ℕ). set c.loop-byte.text i b) (c.shown_byte.ensures ∙ ap f at)
    ∙ ap (λ (xs : List ℕ). set xs i (f (get_or c.args.text.now i 0))) c.loop-byte.invariant
    ∙ map_next f c.args.text.now i 0 c.loop-byte-test.true
