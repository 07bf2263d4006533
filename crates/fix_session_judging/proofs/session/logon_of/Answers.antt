use Rattle.std.proofs.Common.{rules}
use Rattle.fix_session_judging.specs.code.Openings.{logon_by_parts}
use Rattle.fix_session_judging.proofs.events.OpeningInParts.{by_parts}
use Rattle.fix_session_judging.proofs.session.logon_of.Goals as goal

pub returns-then-not-is_opening : goal.returns-then-not-is_opening
unfolding logon_by_parts
returns-then-not-is_opening c = by_parts _ _ _ (search rules)

pub returns-in_err-client : goal.returns-in_err-client
unfolding logon_by_parts
returns-in_err-client c = by_parts _ _ _ (search rules)

pub returns-in_err-host : goal.returns-in_err-host
unfolding logon_by_parts
returns-in_err-host c = by_parts _ _ _ (search rules)

pub returns-in_err-beat : goal.returns-in_err-beat
unfolding logon_by_parts
returns-in_err-beat c = by_parts _ _ _ (search rules)

pub returns : goal.returns
unfolding logon_by_parts
returns c = by_parts _ _ _ (search rules)
