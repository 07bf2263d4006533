use Rattle.std.proofs.Common.{◌≡◌, ◌++◌, ◌≤◌, ◌*◌, ◌+◌, take, length}
use Rattle.std.specs.List.{flat_map, AllByRecursion}
use Rattle.fix_wire.specs.Layout.{field_text, FitsValueOf}
use Rattle.fix_wire.proofs.spelling.put_fields.Given as goal

abbrev pub invariant-loop-field : goal.invariant-loop-field
invariant-loop-field l = record {
  text : take l.end l.room ≡ take l.at l.fn.room ++ flat_map field_text (take l.field-index l.fields);
  most : l.end ≤ l.at + 64 * l.field-index;
  size : length l.room ≡ length l.fn.room;
  values : AllByRecursion FitsValueOf (take l.field-index l.fields);
}
