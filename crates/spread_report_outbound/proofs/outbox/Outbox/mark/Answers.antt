use Rattle.std.proofs.Common.{◌<◌, length, refl, ◌∙◌, arith, None}
use Rattle.std.proofs.lemmas.List.{get_or_default}
use Rattle.spread_report_outbound.proofs.SessionsOf.{in_sessions, number_of, comp_ids_of}
use Rattle.spread_report_outbound.proofs.outbox.Outbox.mark.Goals as goal

pub returns : goal.returns
returns g c =
    let i = c.outbound.inside in
    let in_ns = c.outbound.invariant.numbers in
    let in_os = c.outbound.invariant.comp_ids in
    let there : c.args.session < length i.comp_ids = omega (arith, c.outbound.invariant.comp_ids, c.requires) in
    rw (← c.outbound.view_is) (record {
      own = refl;
      count = in_sessions i.numbers i.comp_ids in_ns in_os;
      lengths = c.note_lengths.ensures;
      numbers = number_of i.numbers i.comp_ids in_ns in_os;
      comp_ids = get_or_default i.comp_ids c.args.session _ None there
          ∙ comp_ids_of i.numbers i.comp_ids in_ns in_os c.args.session;
    })
