use Rattle.std.proofs.Common.{refl, sym, ◌∙◌}
use Rattle.std.proofs.lemmas.Bool.{false≢true}
use Rattle.gate_link_sessions.proofs.gateways.OneStep.{looked}
use Rattle.gate_link_sessions.proofs.gateway.Gateway.stands.Goals as goal

pub returns-then-is_closed-clause-skipped : goal.returns-then-is_closed-clause-skipped
returns-then-is_closed-clause-skipped g c opens =
    absurd (false≢true (sym opens ∙ sym c.is_closed.ensures ∙ c.if-is_closed.true))

pub returns-clause-skipped : goal.returns-clause-skipped
returns-clause-skipped g c opens = looked c.args.self.now _ c.look.ensures.skipped refl

pub returns-clause-same : goal.returns-clause-same
returns-clause-same g c shut = absurd (false≢true (sym c.if-is_closed.false ∙ c.is_closed.ensures ∙ shut))
