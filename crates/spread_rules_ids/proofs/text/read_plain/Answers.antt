use Rattle.std.proofs.Common.{ℤ, to_z, of_z, sym, ap, ◌∙◌}
use Rattle.std.specs.Int.{w64}
use Rattle.std.proofs.lemmas.Int.{to_z-of_z}
use Rattle.std.specs.Fmt.{signed_decimal}
use Rattle.spread_rules_ids.proofs.Numbers.{IsUtf8-signed, not_refused_signed, parsed_signed_is, not_unequal}
use Rattle.spread_rules_ids.proofs.text.read_plain.Goals as goal

pub returns-in-Err-clause-none : goal.returns-in-Err-clause-none
returns-in-Err-clause-none c = λ z fits e. c.in-Err.ensures.cases.0 (IsUtf8-signed z _ fits.sfits e)

pub returns-in-Err-parse-clause-none : goal.returns-in-Err-parse-clause-none
returns-in-Err-parse-clause-none c = λ z fits e. not_refused_signed c.in-Err-parse.field-0 z c.in-Ok.text.now
    c.args.bytes.now fits c.in-Ok.ensures.cases.0 e c.in-Err-parse.ensures.value.0

pub returns-else-eq-clause-none : goal.returns-else-eq-clause-none
returns-else-eq-clause-none c = λ z fits e.
    let same = parsed_signed_is c.parse.result c.in-Ok-parse.number z c.in-Ok.text.now c.args.bytes.now c.in-Ok-parse.is
    fits c.in-Ok.ensures.cases.0 e c.parse.ensures.value.0 in
    not_unequal c.as_bytes.result.now c.args.bytes.now c.eq.result
    (c.as_bytes.ensures.value ∙ c.format.ensures.text ∙ ap (λ (y : ℤ). signed_decimal (to_z w64 (of_z w64 y))) same
    ∙ ap signed_decimal (to_z-of_z w64 z fits) ∙ sym e) c.eq.ensures c.if-eq.false
