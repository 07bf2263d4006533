use Rattle.std.proofs.Common.{◌≡◌, ◌++◌, take}
use Rattle.spread_rules_rulebook.specs.Rulebook.{names_of}
use Rattle.text_day.specs.code.LineParts.{totals_lines_from}
use Rattle.text_day.proofs.months.put_months.Given as goal

abbrev pub invariant-loop-month : goal.invariant-loop-month
invariant-loop-month g l = l.out.items ≡ l.initial.out.items
    ++ totals_lines_from 0 (take l.month (names_of l.rulebook)) l.totals
