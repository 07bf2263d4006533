use Rattle.std.proofs.Common.{ℕ, ◌/◌, unsigned_abs, ap, ◌∙◌, arith, ◌-ℤ◌}
use Rattle.std.proofs.lemmas.Int.{ints}
use Rattle.explain_turns.proofs.ranks.SmallPrices.{distance, tick_fits}
use Rattle.explain_turns.proofs.beyond.ticks_between.Goals as goal

pub returns : goal.returns
returns c =
    let h = c.tick.ensures.high in
    ap (λ (a : ℕ). a / c.unsigned_abs-2.result) (c.unsigned_abs.ensures.value
    ∙ distance c.args.price c.args.limit c.requires.price c.requires.limit)
    ∙ ap (λ (b : ℕ). unsigned_abs (c.args.price -ℤ c.args.limit) / b)
    (c.unsigned_abs-2.ensures.value ∙ tick_fits c.tick.result c.args.rules.now.tick c.tick.ensures.value
    c.tick.ensures.low (omega (arith, ints)))
