use Rattle.live_sessions.proofs.worker.step_or_end.Goals as goal

pub returns-in-Some-clause-kept : goal.returns-in-Some-clause-kept
returns-in-Some-clause-kept g c = c.step_together.ensures.kept c.args.rest.now
