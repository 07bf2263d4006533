-- What the fields of a desk say. Words of the code alone.
use Rattle.spread_report_outbound.specs.code.Sessions.{OutboundState}
use Rattle.spread_report.specs.declared.desk.Desk.TheInside.{Inside}

-- what callers see of a desk
abbrev pub outbound_of : Inside → OutboundState
outbound_of d = d.outbound
