use Rattle.std.proofs.Common.{subst}
use Rattle.spread_rules_rulebook.specs.Rulebook.{IsRules}
use Rattle.spread_rules_rulebook.proofs.rulebook_texts.SymbolsNameOne.{has_dash, parts_are, not_reversed}
use Rattle.spread_rules_rulebook.proofs.rulebook.Rulebook.spread_named.Goals as goal

pub returns-in-None-clause-none : goal.returns-in-None-clause-none
returns-in-None-clause-none c = λ m f l. has_dash c.args.self.now c.args.symbol.now m f c.in-None.ensures.none

pub returns-in-None-month_named-clause-none : goal.returns-in-None-month_named-clause-none
returns-in-None-month_named-clause-none c = λ m f l e.
    let parts = parts_are c.args.self.now (subst IsRules c.self.view_is c.self.invariant.rules) c.args.symbol.now
    c.in-Some.cut.0.now c.in-Some.cut.1.now m f c.in-Some.ensures.found c.in-Some.ensures.first l e in
    c.in-None-month_named.ensures.none m parts.0 parts.2

pub returns-in-None-month_named-2-clause-none : goal.returns-in-None-month_named-2-clause-none
returns-in-None-month_named-2-clause-none c = λ m f l e.
    let parts = parts_are c.args.self.now (subst IsRules c.self.view_is c.self.invariant.rules) c.args.symbol.now
    c.in-Some.cut.0.now c.in-Some.cut.1.now m f c.in-Some.ensures.found c.in-Some.ensures.first l e in
    c.in-None-month_named-2.ensures.none f parts.1 parts.3

pub returns-else-near-far-clause-none : goal.returns-else-near-far-clause-none
returns-else-near-far-clause-none c = λ m f l e.
    not_reversed c.args.self.now (subst IsRules c.self.view_is c.self.invariant.rules) c.args.symbol.now
    c.in-Some.cut.0.now c.in-Some.cut.1.now c.in-Some-month_named.month c.in-Some-month_named-2.month m f
    c.in-Some.ensures.found c.in-Some.ensures.first c.in-Some-month_named.ensures.found
    c.in-Some-month_named-2.ensures.found c.if-near-far.false l e
