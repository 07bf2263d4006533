-- What giving on keeps.
use Rattle.std.proofs.Common.{◌∙◌}
use Rattle.gate_link_stages.specs.Feeding.{SameFeeder}
use Rattle.gate_link_stages.specs.declared.feed.Feeder.{Feeder}

pub same_feeder_trans : {A : Type 0} (a b d : Feeder A) → SameFeeder a b → SameFeeder b d → SameFeeder a d
same_feeder_trans a b d p q = ((q.0.0 ∙ p.0.0, q.0.1 ∙ p.0.1, q.0.2 ∙ p.0.2, q.0.3 ∙ p.0.3), q.1 ∙ p.1)
