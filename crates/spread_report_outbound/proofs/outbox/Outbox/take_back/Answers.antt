use Rattle.std.proofs.Common.{◌≡◌, ℕ, sym, ap, ◌∙◌}
use Rattle.std.proofs.Math.ListN.{set}
use Rattle.spread_report_outbound.specs.code.Sessions.{OutboundState, outbound_at}
use Rattle.spread_report_outbound.specs.code.OutboundFields.{sessions_of}
use Rattle.spread_report_outbound.proofs.SessionsOf.{comp_ids_of}
use Rattle.spread_report_outbound.proofs.TakenBack.{sessions_back, state_back}
use Rattle.spread_report_outbound.proofs.outbox.Outbox.take_back.Goals as goal

pub returns-clause-sessions : goal.returns-clause-sessions
returns-clause-sessions g c = λ session before texts marked since.
    let i = c.outbound.inside in
    let m = c.args.mark.now in
    let back : sessions_of m.numbers (set i.comp_ids m.session m.comp_ids) ≡ before.sessions =
    sessions_back before.sessions m.numbers i.comp_ids m.session m.comp_ids marked.count m.counted
    c.outbound.invariant.comp_ids m.in_range
    (marked.comp_ids ∙ ap (λ (k : ℕ). (outbound_at before.sessions k).comp_ids) (sym marked.own)) marked.numbers
    (λ s below apart.
    comp_ids_of i.numbers i.comp_ids c.outbound.invariant.numbers c.outbound.invariant.comp_ids s
    ∙ (ap (λ (d : OutboundState). (outbound_at d.sessions s).comp_ids) c.outbound.view_is
    ∙ since.comp_ids s below (λ e. apart (e ∙ sym marked.own)))) in
    state_back before i.stamp (sessions_of m.numbers (set i.comp_ids m.session m.comp_ids))
    (ap (λ (d : OutboundState). d.stamp) c.outbound.view_is ∙ since.stamp) back
