use Rattle.std.proofs.Common.{ℕ, List, ap, ◌∙◌}
use Rattle.spread_rules_ids.specs.Ids.{is_id}
use Rattle.spread_report_fields.proofs.SymbolIds.{joined_id}
use Rattle.spread_report_fields.proofs.symbol.joined.Goals as goal

pub of-requires : goal.of-requires
of-requires c =
    ap (λ (t : List ℕ). is_id t) c.write_joined-end.ensures.written
    ∙ (rw (c.bytes.ensures.value, c.bytes-2.ensures.value)
    (joined_id c.args.near.now c.args.far.now c.requires c.bytes.ensures.plain c.bytes-2.ensures.plain))
