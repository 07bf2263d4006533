use Rattle.std.specs.List.{AllByRecursion}
use Rattle.std.proofs.Common.{◌++◌, take, subst, ap, ◌∙◌, arith}
use Rattle.std.proofs.lemmas.List.{take_all}
use Rattle.fix_wire.specs.Layout.{field_text, FitsValueOf}
use Rattle.fix_wire.proofs.writing.WrittenMessage.{fields_more, all_more}
use Rattle.fix_wire.proofs.spelling.put_fields.Goals as goal

pub loop-field-preserved : goal.loop-field-preserved
loop-field-preserved c =
    let fs = c.args.fields.now in
    let i = c.loop-field.field-index in
    record {
      text = c.put_field-end.ensures.text ∙ ap (λ t. t ++ field_text c.field-item.result) c.loop-field.invariant.text
          ∙ fields_more (take c.args.at c.args.room.now) fs i c.field-item.result c.loop-field-test.true
          c.field-item.is;
      most = omega (arith, c.loop-field.invariant.most, c.put_field-end.ensures.most);
      size = c.put_field-end.ensures.size ∙ c.loop-field.invariant.size;
      values = all_more FitsValueOf fs i c.field-item.result c.loop-field-test.true c.field-item.is
          c.loop-field.invariant.values c.put_field-end.ensures.fits;
    }

pub returns-clause-values : goal.returns-clause-values
returns-clause-values c =
    subst (AllByRecursion FitsValueOf) (take_all c.loop-field.field-index c.args.fields.now
    (omega (arith, c.loop-field-test.false))) c.loop-field.invariant.values
