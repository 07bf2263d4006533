use Rattle.std.proofs.Common.{◌∙◌, ap, sym, ℕ, [], ◌∷◌, ◌++◌, List, refl, append_assoc}
use Rattle.std.specs.Cmp.Lexicographic.{same_text, other_text}
use Rattle.text_day.proofs.FirstLines.{other_lines, same_line_same}
use Rattle.text_day.proofs.difference.past_same_line.Goals as goal

pub returns-in_default-clause-other : goal.returns-in_default-clause-other
returns-in_default-clause-other c differ same =
    differ (same_line_same c.args.claim.now c.args.right.now c.in_default.ensures.none same)

pub returns-in_default-cut_at-clause-other : goal.returns-in_default-cut_at-clause-other
returns-in_default-cut_at-clause-other c differ same =
    differ (sym (same_line_same c.args.right.now c.args.claim.now c.in_default-cut_at.ensures.none (sym same)))

pub returns-then-eq-clause-same : goal.returns-then-eq-clause-same
returns-then-eq-clause-same c =
    let said = c.in-Some.said.now in
    let is_said = same_text said c.in-Some-cut_at.wanted.now c.if-eq.ensures in (
      said ++ 10 ∷ [],
      record { bytes = said; one = c.in-Some.ensures.first; ended = refl },
      c.in-Some.ensures.found ∙ sym (append_assoc said (10 ∷ []) c.in-Some.claim_rest.now),
      c.in-Some-cut_at.ensures.found
          ∙ (ap (λ (l : List ℕ). l ++ 10 ∷ c.in-Some-cut_at.right_rest.now) (sym is_said)
          ∙ sym (append_assoc said (10 ∷ []) c.in-Some-cut_at.right_rest.now)),
    )

pub returns-else-eq-clause-other : goal.returns-else-eq-clause-other
returns-else-eq-clause-other c differ same =
    other_lines c.in-Some.said.now c.in-Some-cut_at.wanted.now _ _ c.args.claim.now c.args.right.now
    c.in-Some.ensures.found c.in-Some-cut_at.ensures.found c.in-Some.ensures.first c.in-Some-cut_at.ensures.first
    (other_text _ _ c.if-eq.ensures) same
