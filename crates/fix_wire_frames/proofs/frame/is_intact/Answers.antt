use Rattle.std.proofs.Common.{ℕ, List, take, sym, ap, subst, ◌∙◌, arith}
use Rattle.std.specs.Bool.{OnTrue}
use Rattle.std.proofs.lemmas.List.{take_rest}
use Rattle.fix_wire_frames.specs.code.Frames.{is_body}
use Rattle.fix_wire_frames.specs.code.Tabled.{IsTable}
use Rattle.fix_wire_frames.proofs.framing.IntactFrame.{intact_true, intact_false}
use Rattle.fix_wire_frames.proofs.frame.is_intact.Goals as goal

pub returns-then-is_trailer-clause-intact : goal.returns-then-is_trailer-clause-intact
returns-then-is_trailer-clause-intact c =
    intact_true c.args.text.now c.args.header _ _ c.checksum.result c.is_body.result c.requires.whole (omega arith)
    (omega arith) c.checksum.ensures (sym c.if-is_trailer.true ∙ c.is_trailer.ensures)
    (c.is_body.ensures.body ∙ ap (λ t. is_body (take c.args.header.body_length t))
    (take_rest c.args.text.now c.args.header.body_start))

pub returns-then-is_trailer-clause-table : goal.returns-then-is_trailer-clause-table
returns-then-is_trailer-clause-table c =
    let text = c.args.text.now in
    let header = c.args.header in
    let table = c.is_body.new.table in
    subst (λ (t : List ℕ). OnTrue c.is_body.result (IsTable (take header.body_length t) table))
    (take_rest text header.body_start) c.is_body.ensures.table

pub returns-else-is_trailer-clause-intact : goal.returns-else-is_trailer-clause-intact
returns-else-is_trailer-clause-intact c =
    c.if-is_trailer.false
    ∙ intact_false c.args.text.now c.args.header _ c.checksum.result (omega arith) c.checksum.ensures
    (sym c.if-is_trailer.false ∙ c.is_trailer.ensures)
