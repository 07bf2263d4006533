use Rattle.std.proofs.Common.{subst, sym, None}
use Rattle.spread_rules_rulebook.specs.Rulebook.{IsRules}
use Rattle.spread_rules_rulebook.specs.declared.instrument.Instrument.TheVariants.{Outright}
use Rattle.spread_rules_rulebook.proofs.rulebook_texts.SymbolsNameOne.{found_is, find_symbol_some, neither}
use Rattle.spread_rules_rulebook.proofs.rulebook.Rulebook.find.Goals as goal

pub returns-in-Some-clause-value : goal.returns-in-Some-clause-value
returns-in-Some-clause-value c = sym (find_symbol_some c.args.self.now
    (subst IsRules c.self.view_is c.self.invariant.rules) c.args.symbol.now (Outright c.in-Some.month)
    c.in-Some.ensures.found.0 c.in-Some.ensures.found.1)

pub returns-in-Some-spread_named-clause-value : goal.returns-in-Some-spread_named-clause-value
returns-in-Some-spread_named-clause-value c = sym (find_symbol_some c.args.self.now
    (subst IsRules c.self.view_is c.self.invariant.rules) c.args.symbol.now c.in-Some-spread_named.spread
    c.in-Some-spread_named.ensures.found.0 c.in-Some-spread_named.ensures.found.1)

pub returns-in-Some-month_named-clause-value : goal.returns-in-Some-month_named-clause-value
returns-in-Some-month_named-clause-value c =
    let found = c.in-Some-month_named.ensures.found in
    sym (find_symbol_some c.args.self.now (subst IsRules c.self.view_is c.self.invariant.rules) c.args.symbol.now
    (Outright c.in-Some-month_named.month) found.0 found.1)

pub returns-in-None-clause-value : goal.returns-in-None-clause-value
returns-in-None-clause-value c =
    let symbol = c.args.symbol.now in
    found_is c.args.self.now (subst IsRules c.self.view_is c.self.invariant.rules) symbol None tt
    (neither c.args.self.now symbol c.in-None.ensures.none c.in_default-spread_named.ensures.none)
