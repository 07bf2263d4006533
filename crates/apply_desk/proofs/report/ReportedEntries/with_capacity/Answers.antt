use Rattle.std.proofs.Common.{[], sym, subst, ◌∙◌}
use Rattle.spread_report_outbound.specs.code.Sessions.{OutboundState, sessions_starting, texts_of}
use Rattle.spread_report.specs.Running.{HasSent}
use Rattle.spread_report.proofs.entries.OneEntryMore.{sent_start}
use Rattle.apply_market.specs.Application.{rules_of}
use Rattle.apply_desk.proofs.EntryByEntry.{texts_length}
use Rattle.apply_desk.specs.Sending.{behind}
use Rattle.apply_desk.proofs.HandedOn.{behind_none}
use Rattle.apply_desk.proofs.report.ReportedEntries.with_capacity.Goals as goal

pub returns-clause-start : goal.returns-clause-start
returns-clause-start g c =
    let rules = rules_of c.in-Ok-with_capacity.applied in
    let lists = c.in-Ok.lists.items in
    record {
      applied = c.in-Ok-with_capacity.ensures.start;
      sent =
          subst (λ (d : OutboundState). HasSent rules d.stamp 1 [] d (behind (λ s. []) (texts_of lists)))
          (sym c.new.ensures)
          (subst (HasSent rules c.args.stamp 1 [] (sessions_starting c.args.stamp 1))
          (sym (behind_none (texts_of lists)))
          (sent_start rules c.args.stamp 1 (texts_of lists) (texts_length lists ∙ c.in-Ok.ensures.count)
          (λ s h. c.in-Ok.ensures.empty s)));
    }
