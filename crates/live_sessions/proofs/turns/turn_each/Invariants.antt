use Rattle.std.proofs.Common.{◌≡◌, true}
use mathlib.Core.List.{IsPrefix}
use Rattle.gate_link.specs.Links.{SameLink, journal_of}
use Rattle.live_sessions.specs.code.Turning.{AllTaken}
use Rattle.live_sessions.proofs.turns.turn_each.Given as goal

abbrev pub invariant-loop-s : goal.invariant-loop-s
invariant-loop-s g l = record {
  link : SameLink l.initial.sequencer l.sequencer;
  done : l.done ≡ true → AllTaken l.s l.sequencer;
  grown : IsPrefix (journal_of l.initial.sequencer) (journal_of l.sequencer);
}
