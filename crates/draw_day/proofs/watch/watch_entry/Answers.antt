use Rattle.std.proofs.Common.{Result, Ok, Err, OnOk, take}
use Rattle.apply_market.proofs.EntryByEntry.{applied_through}
use Rattle.draw_day.proofs.watch.watch_entry.Goals as goal

on_ok : {T E P : Type 0} (r : Result T E) → P → OnOk r P
on_ok (Ok x) p = p
on_ok (Err e) p = tt

pub returns-in-Ok : goal.returns-in-Ok
returns-in-Ok g c =
    let journal = c.args.journal.now in
    let n = c.args.n in
    on_ok c.see.result (applied_through journal n c.index-journal-n.result c.in-Ok.outcome c.apply.new.self
    c.requires.within c.index-journal-n.is (c.in-Ok.ensures.next (take n journal) c.requires.applied))
