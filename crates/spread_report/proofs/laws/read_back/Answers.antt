use Rattle.std.proofs.Common.{◌≡◌, ℕ, ◌≤◌, true, false, List, [], sym, ap, ◌∙◌, append-nil, arith}
use Rattle.std.specs.List.{AllByRecursion}
use Rattle.fix_wire_frames.specs.Frames.{frames}
use Rattle.spread_rules_ids.specs.Ids.{is_id}
use Rattle.spread_rules_rulebook.specs.Rulebook.{Rules}
use Rattle.spread_report.specs.Outgoing.{AppliedEntry}
use Rattle.spread_report_outbound.specs.code.Steps.{outbound_before_logon}
use Rattle.spread_report.specs.code.PerSession.{outgoing_starting, messages_starting, spends_from}
use Rattle.spread_report.specs.Ranges.{AreNames, EntryInRange}
use Rattle.spread_report_outbound.specs.Rows.{IsRow}
use Rattle.spread_report.proofs.frames.ReadBack.{from_is}
use Rattle.spread_report.proofs.laws.read_back.Goals as goal

row : (next : ℕ) (rules : Rules) (stamp : List ℕ) (worked : List AppliedEntry) (s : ℕ) → next ≤ 999999999
    → (e : is_id stamp ≡ true) → AreNames rules → AllByRecursion (EntryInRange rules) worked
    → spends_from rules s (outbound_before_logon next) worked ≡ false
    → IsRow (messages_starting next rules stamp worked s) (outgoing_starting next rules stamp worked s)
row next rules stamp worked s few e names fits unspent =
    from_is stamp e rules names s (outbound_before_logon next) worked (record { next = omega (arith, few); ids = tt })
    fits unspent

pub returns-clause-joined : goal.returns-clause-joined
returns-clause-joined c next rules stamp worked s few e names fits unspent =
    sym (row next rules stamp worked s few e names fits unspent).joined

pub returns-clause-whole : goal.returns-clause-whole
returns-clause-whole c next rules stamp worked s few e names fits unspent =
    (row next rules stamp worked s few e names fits unspent).whole

pub returns-clause-read : goal.returns-clause-read
returns-clause-read c next rules stamp worked s few e names fits unspent =
    ap (λ (t : List ℕ). frames t) (sym (append-nil (outgoing_starting next rules stamp worked s)))
    ∙ ((row next rules stamp worked s few e names fits unspent).read []
    ∙ append-nil (messages_starting next rules stamp worked s))
