use Rattle.std.proofs.Common.{rules, ◌+◌, ◌<◌, is_some, take, drop, length, refl, sym, ap, subst, ◌∙◌, arith}
use Rattle.std.proofs.lemmas.List.{length-drop, length-take-le}
use Rattle.fix_wire_frames.specs.declared.table.FieldTable.{FieldTable}
use Rattle.fix_wire_frames.proofs.fields.RowOfFields.{row_none}
use Rattle.fix_wire_frames.proofs.fields.TableOfFields.{IsTabled, none_tabled, tabled_more, all_tabled}
use Rattle.fix_wire_frames.proofs.texts.TagIndexes.{index_within}
use Rattle.fix_wire_frames.proofs.table.are_fields.Goals as goal

pub loop-rest-init : goal.loop-rest-init
loop-rest-init c =
    let text = c.args.text.now in
    let body = take c.args.count c.args.text.now in (
      omega arith,
      record {
        order = omega arith;
        few = omega arith;
        bits = refl;
      },
      none_tabled body (record c.args.table.now { present = 0 }) (search rules) refl,
    )

pub returns-in_default-clause-row : goal.returns-in_default-clause-row
returns-in_default-clause-row c =
    let body = take c.args.count c.args.text.now in
    let rest = c.loop-rest.rest in
    let long = length-take-le c.args.count c.args.text.now c.requires.within in
    let some : 0 < length (drop c.loop-rest.rest (take c.args.count c.args.text.now)) =
    omega (arith, length-drop rest body, long, c.loop-rest-test.true) in
    sym (ap is_some (row_none (drop rest body) some c.in_default.ensures.field)) ∙ c.loop-rest.invariant.2.row

pub loop-rest-preserved : goal.loop-rest-preserved
loop-rest-preserved c =
    let body = take c.args.count c.args.text.now in
    let f = c.in-Some.field in
    let e = c.in-Some.ensures in
    let long = length-take-le c.args.count c.args.text.now c.requires.within in
    let index = index_within f.tag in (
      omega (arith, e.within),
      e.marks,
      subst (λ (t : FieldTable). IsTabled body t (f.end + 1)) (sym c.with_place-present.ensures)
          (tabled_more body (record { places = c.loop-rest.table.places; present = c.loop-rest.present })
          c.loop-rest.rest f c.loop-rest.invariant.2 e.field e.order (omega (arith, long, e.within))
          (omega (arith, index))),
    )

pub returns-clause-row : goal.returns-clause-row
returns-clause-row c =
    let body = take c.args.count c.args.text.now in
    let long = length-take-le c.args.count c.args.text.now c.requires.within in
    sym (all_tabled body (record { places = c.loop-rest.table.places; present = c.loop-rest.present }) c.loop-rest.rest
    c.loop-rest.invariant.2 (omega (arith, long, c.loop-rest-test.false))).0

pub returns-clause-table : goal.returns-clause-table
returns-clause-table c =
    let body = take c.args.count c.args.text.now in
    let long = length-take-le c.args.count c.args.text.now c.requires.within in
    (all_tabled body (record { places = c.loop-rest.table.places; present = c.loop-rest.present }) c.loop-rest.rest
    c.loop-rest.invariant.2 (omega (arith, long, c.loop-rest-test.false))).1
