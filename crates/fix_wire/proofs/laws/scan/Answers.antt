use Rattle.fix_wire_frames.proofs.framing.FramesHeld.{scan_start, pass_law, passed_over, rest_stays, start_frames}
use Rattle.fix_wire.proofs.laws.scan.Goals as goal

pub returns-clause-kept : goal.returns-clause-kept
returns-clause-kept c = scan_start

pub returns-clause-passed : goal.returns-clause-passed
returns-clause-passed c = pass_law

pub returns-clause-skipped : goal.returns-clause-skipped
returns-clause-skipped c = passed_over

pub returns-clause-rest : goal.returns-clause-rest
returns-clause-rest c = rest_stays

pub returns-clause-again : goal.returns-clause-again
returns-clause-again c = start_frames
