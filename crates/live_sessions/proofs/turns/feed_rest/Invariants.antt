use mathlib.Core.List.{IsPrefix}
use Rattle.gate_link_stages.specs.Feeding.{given, SameFeeder}
use Rattle.live_sessions.proofs.turns.feed_rest.Given as goal

abbrev pub invariant-loop : goal.invariant-loop
invariant-loop g l = record {
  ring : SameFeeder l.initial.feeder l.feeder;
  prefix : IsPrefix (given l.feeder) l.journal;
}
