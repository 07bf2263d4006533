use mathlib.Core.List.{IsPrefix}
use Rattle.gate_link.specs.Links.{SameLink, journal_of}
use Rattle.gate_link_stages.specs.Feeding.{given, SameFeeder}
use Rattle.live_sessions.proofs.turns.take_turns.Given as goal

abbrev pub invariant-loop : goal.invariant-loop
invariant-loop g l = record {
  link : SameLink l.initial.sequencer l.sequencer;
  ring : SameFeeder l.initial.feeder l.feeder;
  prefix : IsPrefix (given l.feeder) (journal_of l.sequencer);
}
