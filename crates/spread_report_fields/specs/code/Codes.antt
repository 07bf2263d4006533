-- Words of the code alone, beside `Codes`: no promise of a whole day needs them to be read.
use Rattle.std.specs.Prelude.{ℕ}
use Rattle.spread_rules.specs.declared.codes.ord_status.TheConstants as ord_status
use Rattle.spread_report_fields.specs.declared.codes.MultiLegReportingType.{MultiLegReportingType}
use Rattle.spread_report_fields.specs.declared.codes.MultiLegReportingType.TheVariants.{SingleSecurity, IndividualLeg, MultiLegSecurity}
use Rattle.spread_report_fields.specs.declared.codes.TheConstants.{SINGLE_SECURITY, INDIVIDUAL_LEG, MULTI_LEG_SECURITY}
use Rattle.spread_report_fields.specs.declared.codes.OrdStatus.{OrdStatus}
use Rattle.spread_report_fields.specs.declared.codes.OrdStatus.TheVariants.{New, PartiallyFilled, Filled, Canceled, Replaced, Rejected}

-- MultiLegReportingType, tag 442
abbrev pub multi_leg_code : MultiLegReportingType → ℕ
multi_leg_code SingleSecurity = SINGLE_SECURITY
multi_leg_code IndividualLeg = INDIVIDUAL_LEG
multi_leg_code MultiLegSecurity = MULTI_LEG_SECURITY

-- OrdStatus, tag 39, and ExecType, tag 150
abbrev pub ord_status_code : OrdStatus → ℕ
ord_status_code New = ord_status.NEW
ord_status_code PartiallyFilled = ord_status.PARTIALLY_FILLED
ord_status_code Filled = ord_status.FILLED
ord_status_code Canceled = ord_status.CANCELED
ord_status_code Replaced = ord_status.REPLACED
ord_status_code Rejected = ord_status.REJECTED
