use Rattle.std.proofs.Common.{◌≡◌, ◌++◌, [], ℕ, List, sym, subst, ◌∙◌}
use Rattle.std.proofs.lemmas.Result.{IfOk-weaker}
use Rattle.intake_lines.specs.code.LineSessions.{TakesLine}
use Rattle.intake_lines.proofs.PiecesReadInTurn.{nothing_kept}
use Rattle.intake_lines.proofs.day_reader.take_end.Goals as goal

-- nothing was kept, so that the end is the whole line
pub returns-then-is_empty-clause-line : goal.returns-then-is_empty-clause-line
returns-then-is_empty-clause-line g c =
    let kept = c.args.rest.now in
    let none : kept.items ≡ [] = nothing_kept kept c.is_empty.result c.is_empty.ensures c.if-is_empty.true in
    IfOk-weaker c.take_line.result
    (λ good. TakesLine good c.args.end.now c.args.line_sessions.now c.take_line.new.self)
    (λ good. TakesLine good (kept.items ++ c.args.end.now) c.args.line_sessions.now c.take_line.new.self)
    (λ good takes. subst (λ (t : List ℕ). TakesLine good (t ++ c.args.end.now) c.args.line_sessions.now
    c.take_line.new.self) (sym none) takes)
    c.take_line.ensures

pub returns-clause-line : goal.returns-clause-line
returns-clause-line g c =
    subst (λ (t : List ℕ). TakesLine c.in_ok-is_good.is_good t c.args.line_sessions.now c.take_line-2.new.self)
    (c.deref.ensures.value ∙ c.in_ok-extend_from_slice.ensures.items) c.in_ok-is_good.ensures
