use Rattle.std.proofs.Common.{◌++◌, ◌∙◌, sym, ap, refl}
use Rattle.std.specs.List.{list_any}
use Rattle.spread_rules.specs.Journal.{is_close}
use Rattle.fix_wire_frames.specs.Frames.{frames}
use Rattle.fix_session_judging.specs.Steps.{new_session}
use Rattle.gate_link_sessions.proofs.gateways.StillOwed.{owes_nothing, owed_put, owed_same, owed_passed, end_owed, whole_has_close}
use Rattle.gate_link_sessions.proofs.laws.owed.Goals as goal

pub returns-clause-starts : goal.returns-clause-starts
returns-clause-starts c = c.judged.ensures.whole

pub returns-clause-closed : goal.returns-clause-closed
returns-clause-closed c s held more shut = owes_nothing s (frames (held ++ more)) shut

pub returns-clause-put : goal.returns-clause-put
returns-clause-put c = owed_put

pub returns-clause-skipped : goal.returns-clause-skipped
returns-clause-skipped c = owed_same

pub returns-clause-passed : goal.returns-clause-passed
returns-clause-passed c = owed_passed

pub returns-clause-ended : goal.returns-clause-ended
returns-clause-ended c = end_owed

pub returns-clause-closes : goal.returns-clause-closes
returns-clause-closes c stream = ap (list_any is_close) (sym (c.judged.ensures.whole stream))
    ∙ whole_has_close new_session (frames stream) refl
