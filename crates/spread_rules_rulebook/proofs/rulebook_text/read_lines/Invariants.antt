use Rattle.std.proofs.Common.{◌+◌, ◌≤◌, length, Result}
use Rattle.spread_rules_rulebook.specs.declared.rule_fault.RuleFault.{RuleFault}
use Rattle.spread_rules_rulebook.specs.Rulebook.{Rules}
use Rattle.spread_rules_rulebook.specs.RulebookText.{Reads, ReadsRulebook}
use Rattle.spread_rules_rulebook.specs.code.DraftFields.{IsDraft, so_far}
use Rattle.spread_rules_rulebook.proofs.rulebook_text.read_lines.Given as goal

-- whatever reading answers for what is left, it answers for the whole
abbrev pub invariant-lines : goal.invariant-lines
invariant-lines l = IsDraft l.draft × (l.number + length l.rest ≤ length l.text + 1)
    × ((answer : Result Rules RuleFault) → Reads l.number (so_far l.draft) l.rest answer
    → ReadsRulebook l.fn.text answer)

abbrev pub decreases-lines : goal.decreases-lines
decreases-lines l = length l.rest
