use Rattle.std.proofs.Common.{◌≡◌, false, length}
use Rattle.gate_link_stages.specs.Feeding.{taken, take_ended, SameMatcher}
use Rattle.apply_desk.specs.Sending.{sending_rules, stamp_of}
use Rattle.live_matching.specs.code.Posting.{CanPost, HasPosted, SamePosters}
use Rattle.live_matching.proofs.turns.match_all.Given as goal

abbrev pub invariant-loop : goal.invariant-loop
invariant-loop g l = record {
  ring : SameMatcher l.initial.matcher l.matcher;
  writers : SamePosters l.initial.posted.posters.items l.posted.posters.items;
  rules : sending_rules l.posted.reported ≡ sending_rules l.initial.posted.reported;
  stamp : stamp_of l.posted.reported ≡ stamp_of l.initial.posted.reported;
  posted : HasPosted (taken l.matcher) l.posted;
  rings : CanPost l.posted;
  worked : l.worked ≡ length (taken l.matcher);
  running : take_ended l.matcher ≡ false;
}
