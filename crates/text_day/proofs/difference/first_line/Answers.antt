use Rattle.std.proofs.Common.{◌≡◌, ◌∙◌, ap, sym, ℕ, suc, ◌+◌, length, take, arith}
use Rattle.text_day.specs.Differences.{first_line}
use Rattle.text_day.proofs.FirstLines.{line_ends, line_is_all, taken}
use Rattle.text_day.proofs.difference.first_line.Goals as goal

pub returns-in-Some : goal.returns-in-Some
returns-in-Some c =
    let line = c.in-Some.line.now in
    let one_more : length line + 1 ≡ suc (length line) = omega (arith) in
    ap (λ (n : ℕ). take n c.args.text.now) one_more
    ∙ (ap (take (suc (length line))) c.in-Some.ensures.found
    ∙ (taken line _ ∙ (sym (line_ends line _ c.in-Some.ensures.first) ∙ ap first_line (sym c.in-Some.ensures.found))))

pub returns-in-None : goal.returns-in-None
returns-in-None c = sym (line_is_all c.args.text.now c.in-None.ensures.none)
