use Rattle.std.proofs.Common.{true, false, sym, ◌∙◌, arith}
use Rattle.fix_wire_frames.proofs.texts.HeaderAtTheFront.{front_without_header, front_cut_short, front_intact}
use Rattle.fix_wire_frames.proofs.frame.scan_front.Goals as goal

pub returns-in-None-clause-front : goal.returns-in-None-clause-front
returns-in-None-clause-front c =
    sym (front_without_header c.args.text.now true (sym c.header_of.ensures ∙ c.in-None.is)
    (sym c.is_header_open.ensures ∙ c.if-is_header_open.true))

pub returns-in-None-2-clause-front : goal.returns-in-None-2-clause-front
returns-in-None-2-clause-front c =
    sym (front_without_header c.args.text.now false (sym c.header_of.ensures ∙ c.in-None-2.is)
    (sym c.is_header_open.ensures ∙ c.if-is_header_open.false))

pub returns-then-text-whole-clause-front : goal.returns-then-text-whole-clause-front
returns-then-text-whole-clause-front c =
    sym (front_cut_short c.args.text.now c.in-Some.header (sym c.header_of.ensures ∙ c.in-Some.is)
    (omega (arith, c.if-text-whole.true)))

pub returns-then-is_intact-clause-front : goal.returns-then-is_intact-clause-front
returns-then-is_intact-clause-front c =
    sym (front_intact c.args.text.now c.in-Some.header (sym c.header_of.ensures ∙ c.in-Some.is)
    (sym c.is_intact.ensures.intact ∙ c.if-is_intact.true))
