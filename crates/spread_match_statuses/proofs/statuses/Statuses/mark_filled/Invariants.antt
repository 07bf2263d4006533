use Rattle.std.proofs.Common.{◌≡◌, take}
use Rattle.spread_match_statuses.specs.code.Statuses.{statuses_after}
use Rattle.spread_match_statuses.proofs.statuses.Statuses.mark_filled.Given as goal

abbrev pub invariant-loop-fill : goal.invariant-loop-fill
invariant-loop-fill g l = record {
  statuses_after : l.self ≡ statuses_after (take l.fill-index l.fills) l.initial.self;
}
