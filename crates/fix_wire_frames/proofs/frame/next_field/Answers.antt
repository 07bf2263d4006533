use Rattle.std.proofs.Common.{option_map, take, ap, ◌∙◌}
use Rattle.fix_wire_frames.specs.code.Scans.{leading_field_view}
use Rattle.fix_wire_frames.proofs.fields.MarkedField.{no_end, tag_found, tag_not_found}
use Rattle.fix_wire_frames.proofs.frame.next_field.Goals as goal

pub returns-then-end-count-clause-field : goal.returns-then-end-count-clause-field
returns-then-end-count-clause-field c = no_end c.args.text.now c.args.count c.args.from c.next_soh-end.result
    c.requires.within c.requires.from c.next_soh-end.ensures.place c.if-end-count.true

pub returns-in_err-tag-clause-field : goal.returns-in_err-tag-clause-field
returns-in_err-tag-clause-field c =
    ap (option_map (leading_field_view (take c.args.count c.args.text.now))) c.from_residual.ensures
    ∙ tag_not_found c.args.text.now c.args.count c.args.from c.next_soh-end.result c.requires.within c.requires.from
    c.next_soh-end.ensures.place c.if-end-count.false c.in_err-tag.ensures.field

pub returns-clause-field : goal.returns-clause-field
returns-clause-field c = tag_found c.args.text.now c.args.count c.args.from c.next_soh-end.result c.in_ok-tag.tag
    c.requires.within c.requires.from c.next_soh-end.ensures.place c.if-end-count.false c.in_ok-tag.ensures.field
