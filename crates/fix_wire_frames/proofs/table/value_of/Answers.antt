use Rattle.std.proofs.Common.{◌≡◌, true, false, arith, sym}
use Rattle.fix_wire_frames.specs.code.Tabled.{has_place, place_at, IsTable, IsWithin}
use Rattle.fix_wire_frames.proofs.fields.TableOfFields.{place_stands, no_place, tabled_value}
use Rattle.fix_wire_frames.proofs.table.value_of.Goals as goal

pub slice_bounds-result-start : goal.slice_bounds-result-start
slice_bounds-result-start c =
    let held = c.in-Some.table.now in
    let i = c.index_of-i.result in
    let table : IsTable c.args.body.now held = rw c.in-Some.is at c.requires.table in
    let within : IsWithin c.args.body.now (place_at held.places i) =
    table.within i (place_stands held.present i c.if-table-i-eq0.false) in
    omega (arith, within.order, within.end)

pub slice_bounds-result-end : goal.slice_bounds-result-end
slice_bounds-result-end c =
    let held = c.in-Some.table.now in
    let i = c.index_of-i.result in
    let table : IsTable c.args.body.now held = rw c.in-Some.is at c.requires.table in
    let within : IsWithin c.args.body.now (place_at held.places i) =
    table.within i (place_stands held.present i c.if-table-i-eq0.false) in
    omega (arith, within.order, within.end)

pub returns : goal.returns
returns c =
    let held = c.in-Some.table.now in
    let i = c.index_of-i.result in
    let table : IsTable c.args.body.now held = rw c.in-Some.is at c.requires.table in
    tabled_value c.args.body.now held c.args.tag i true table c.index_of-i.ensures.index
    (omega (arith, c.index_of-i.ensures.within, c.if-i-eq-TABLED_TAGS.false))
    (place_stands held.present i c.if-table-i-eq0.false)

pub returns-then-table-i-eq0 : goal.returns-then-table-i-eq0
returns-then-table-i-eq0 c =
    let held = c.in-Some.table.now in
    let i = c.index_of-i.result in
    let table : IsTable c.args.body.now held = rw c.in-Some.is at c.requires.table in
    tabled_value c.args.body.now held c.args.tag i false table c.index_of-i.ensures.index
    (omega (arith, c.index_of-i.ensures.within, c.if-i-eq-TABLED_TAGS.false))
    (no_place held.present i c.if-table-i-eq0.true)
