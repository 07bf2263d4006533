use Rattle.std.proofs.Common.{◌<◌, length, drop, refl, arith, length-drop}
use Rattle.spread_report_fields.proofs.SymbolIds.{written_joined}
use Rattle.spread_report_fields.proofs.symbol.write_joined.Goals as goal

pub returns-clause-written : goal.returns-clause-written
returns-clause-written c =
    let some : 0 < length (drop (length c.args.first.now) c.args.text.now) =
    omega (arith, c.requires.room, length-drop (length c.args.first.now) c.args.text.now) in
    written_joined c.copy_from_slice.new.self c.args.first.now (drop (length c.args.first.now) c.args.text.now)
    c.args.second.now c.copy_from_slice-2.new.self _ _ _ c.copy_from_slice.ensures.after
    c.copy_from_slice-2.ensures.after refl refl some
