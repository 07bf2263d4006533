-- One entry that is a close is enough.
use Rattle.std.proofs.Common.{◌≡◌, ℕ, ◌<◌, true, List, length, get_or, sym, ap, ◌∙◌}
use Rattle.std.specs.List.{list_any}
use Rattle.std.proofs.lemmas.List.{get_or-map, length-map}
use Rattle.std.proofs.lemmas.List.Folds.{list_any_at}
use Rattle.spread_rules.specs.Journal.{is_close}
use Rattle.spread_rules.specs.declared.event.Entry.{Entry}
use Rattle.gate_link_sessions.specs.Rows.{entry_events}

pub any_entry : (xs : List Entry) (i : ℕ) (x : Entry) → i < length xs → x ≡ get_or xs i x → is_close x.event ≡ true
    → list_any is_close (entry_events xs) ≡ true
any_entry xs i x here is closes =
    let there : i < length (entry_events xs) = rw length-map here in
    list_any_at is_close (entry_events xs) i x.event there
    (ap is_close (get_or-map (λ (e : Entry). e.event) xs i x x.event here ∙ ap (λ (e : Entry). e.event) (sym is))
    ∙ closes)
