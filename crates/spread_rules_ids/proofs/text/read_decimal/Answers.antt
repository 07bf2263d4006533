use Rattle.std.proofs.Common.{sym, ap, ◌∙◌}
use Rattle.std.specs.Fmt.{decimal}
use Rattle.spread_rules_ids.proofs.Numbers.{IsUtf8-number, not_refused, parsed_is, not_unequal}
use Rattle.spread_rules_ids.proofs.text.read_decimal.Goals as goal

pub returns-in-Err-clause-none : goal.returns-in-Err-clause-none
returns-in-Err-clause-none c = λ n lt e. c.in-Err.ensures.cases.0 (IsUtf8-number n _ lt e)

pub returns-in-Err-parse-clause-none : goal.returns-in-Err-parse-clause-none
returns-in-Err-parse-clause-none c = λ n lt e. not_refused c.in-Err-parse.field-0 n c.in-Ok.text.now c.args.bytes.now lt
    c.in-Ok.ensures.cases.0 e c.in-Err-parse.ensures.value.0

pub returns-else-eq-clause-none : goal.returns-else-eq-clause-none
returns-else-eq-clause-none c = λ n lt e.
    let same = parsed_is c.parse.result c.in-Ok-parse.number n c.in-Ok.text.now c.args.bytes.now c.in-Ok-parse.is lt
    c.in-Ok.ensures.cases.0 e c.parse.ensures.value.0 in
    not_unequal c.as_bytes.result.now c.args.bytes.now c.eq.result
    (c.as_bytes.ensures.value ∙ c.format.ensures.text ∙ ap decimal same ∙ sym e) c.eq.ensures c.if-eq.false
