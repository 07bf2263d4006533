-- A claim of a journal's fills and month totals, and whether it is what the rule gives.
use Rattle.std.specs.Prelude.{◌≡◌, ℕ, List}
use Rattle.spread_rules.specs.declared.fill.Fill.{Fill}
use Rattle.spread_rules_rulebook.specs.Rulebook.{Rules}
use Rattle.text_day.specs.code.DayText.{fills_text}
use Rattle.text_day.specs.Differences.{DiffersFirst}
use Rattle.spread_host.specs.Checks.{IsChecked, IsCheckFault}
use Rattle.spread_host.specs.declared.from_claim.AuditFault.{AuditFault}
use Rattle.spread_host.specs.declared.from_claim.AuditFault.TheVariants.{Host, Differs}

-- The claim is, byte for byte, the lines of the fills and months that the rule gives the journal of this text.
pub record IsRight (rules : Rules) (text claim : List ℕ) : Type 0 where
  pub fills : List Fill
  pub checked : IsChecked rules text fills
  pub exact : claim ≡ fills_text rules fills

-- It is not: the line of that number is the first that is another, and should be this one.
pub record IsWrong
    (rules : Rules) (text claim : List ℕ) (number : ℕ) (line : List ℕ) : Type 0 where
  pub fills : List Fill
  pub checked : IsChecked rules text fills
  pub differs : DiffersFirst claim (fills_text rules fills) number line

-- why a claim was not confirmed: the journal could not be checked, or the claim is wrong
abbrev pub IsAuditFault : {A : Type 0} → Rules → List ℕ → List ℕ → AuditFault A → Type 0
IsAuditFault rules text claim (Host fault) = IsCheckFault text fault
IsAuditFault rules text claim (Differs d) = IsWrong rules text claim d.line d.right.items
