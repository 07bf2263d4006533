use Rattle.std.proofs.Common.{◌≡◌, take, length}
use Rattle.gate_link_stages.proofs.Feeds.{items_of}
use Rattle.gate_link_stages.proofs.feed.Feeder.give.Given as goal

abbrev pub invariant-loop-i : goal.invariant-loop-i
invariant-loop-i g l = record {
  done : take l.i l.items ≡ items_of (take l.i l.rest);
  long : length l.items ≡ 64;
}
