use Rattle.std.proofs.Common.{◌≡◌, ℕ, ◌==◌, Bool, true, false, if◌then◌else◌, refl}
use Rattle.std.specs.Int.{w64}
use Rattle.std.proofs.lemmas.Int.{to_z-of_z}
use Rattle.spread_report_fields.specs.code.Codes.{ord_status_code}
use Rattle.spread_report_fields.specs.declared.codes.OrdStatus.TheVariants.{PartiallyFilled, Filled}
use Rattle.spread_report_orders.specs.code.Reports.{fill_status}
use Rattle.spread_report_orders.proofs.fill.send_part.Goals as goal

-- the code of the status that a fill leaves
code_is : (leaves : ℕ) → ord_status_code (fill_status leaves) ≡ (if leaves == 0 then 2 else 1)
code_is leaves = by_test (leaves == 0)
  where
    by_test : (b : Bool) → ord_status_code (if b then Filled else PartiallyFilled) ≡ (if b then 2 else 1)
    by_test true = refl
    by_test false = refl

pub returns : goal.returns
returns g c = rw (
  c.fill_status.ensures,
  to_z-of_z w64 c.args.part.now.price c.requires.price,
  code_is c.args.fill.now.leaves,
) at c.send_body.ensures.sent
