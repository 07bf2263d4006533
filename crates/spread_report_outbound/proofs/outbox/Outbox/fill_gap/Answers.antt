use Rattle.std.proofs.Common.{◌≡◌, ◌<◌, [], ◌∷◌, true, false, nat_lt, length, get_or, refl, ◌∙◌, arith, rules, Some, None}
use Rattle.std.proofs.lemmas.List.{get_or_default}
use Rattle.std.proofs.lemmas.Result.{err_from_is_err_and}
use Rattle.spread_report_outbound.specs.code.OutboundFields.{sessions_of}
use Rattle.spread_report_outbound.proofs.OneMessage.{gap_line, gap_text, gap_none, appended_line, kept_line, sent_off}
use Rattle.spread_report_outbound.proofs.SessionsOf.{session_of, in_sessions, read_at}
use Rattle.spread_report_fields.specs.code.Fields.{number_field, text_field}
use Rattle.spread_report_outbound.specs.Steps.{gap_fill, head_of}
use Rattle.spread_report_outbound.proofs.FrameRows.{written_row}
use Rattle.spread_report_outbound.proofs.outbox.Outbox.fill_gap.Goals as goal

pub returns-then-number-next-clause-sent : goal.returns-then-number-next-clause-sent
returns-then-number-next-clause-sent g c =
    let i = c.outbound.inside in
    let there : c.args.session < length i.comp_ids = omega (arith, c.outbound.invariant.comp_ids, c.requires) in
    let is_ids : get_or i.comp_ids c.args.session None ≡ Some c.in-Some.ids =
    get_or_default i.comp_ids c.args.session None _ there ∙ c.in-Some.is in
    let in_ns = c.outbound.invariant.numbers in
    let in_os = c.outbound.invariant.comp_ids in
    let r = session_of (get_or i.numbers c.args.session 0) (get_or i.comp_ids c.args.session None) in
    let above : nat_lt c.from-number.result r.next ≡ false = search (rules, c.if-number-next.true) in
    record {
      lent = record { outbound = refl; lists = refl };
      stamp = rw (← c.outbound.view_is) refl;
      result = rw (← c.outbound.view_is) (gap_none i.stamp (sessions_of i.numbers i.comp_ids) c.args.self.now.lists.now
          c.args.session r
          (in_sessions i.numbers i.comp_ids in_ns in_os) c.requires
          (read_at i.numbers i.comp_ids in_ns in_os c.args.session 0 None c.requires)
          c.args.first c.args.last c.in-Some.ids is_ids (rw (← c.from-number.ensures) above));
    }

pub returns-in_ok-write_message-in-Some-clause-sent : goal.returns-in_ok-write_message-in-Some-clause-sent
returns-in_ok-write_message-in-Some-clause-sent g c =
    let i = c.outbound.inside in
    let there : c.args.session < length i.comp_ids = omega (arith, c.outbound.invariant.comp_ids, c.requires) in
    let is_ids : get_or i.comp_ids c.args.session None ≡ Some c.in-Some.ids =
    get_or_default i.comp_ids c.args.session None _ there ∙ c.in-Some.is in
    let in_ns = c.outbound.invariant.numbers in
    let in_os = c.outbound.invariant.comp_ids in
    let r = session_of (get_or i.numbers c.args.session 0) (get_or i.comp_ids c.args.session None) in
    let below : nat_lt c.from-number.result r.next ≡ true = search (rules, c.if-number-next.false) in
    record {
      lent = record { outbound = refl; lists = refl };
      stamp = rw (← c.outbound.view_is) refl;
      result = rw (← c.outbound.view_is) (
          gap_line i.stamp (sessions_of i.numbers i.comp_ids) c.args.self.now.lists.now c.args.session c.args.first
          c.args.last r
          c.index-lists-at.result c.in-Some.ids c.write_message.new.out _
          (in_sessions i.numbers i.comp_ids in_ns in_os) c.args.self.now.counted c.requires
          (read_at i.numbers i.comp_ids in_ns in_os c.args.session 0 None c.requires) is_ids
          c.in_ok-write_message-in-Some.ensures.ok
          (gap_text i.stamp c.in-Some.ids r.next c.args.first c.args.last c.from-number.result
          c.new_seq_no-new_number.result c.from.result c.of.result
          c.from-number.ensures c.new_seq_no-new_number.ensures c.from.ensures c.of.ensures below)
          (written_row (head_of i.stamp c.in-Some.ids 52 c.from-number.result true)
          (number_field 36 c.new_seq_no-new_number.result ∷ text_field 123 c.of.result ∷ []) (omega arith) refl
          (omega arith) c.in_ok-write_message-in-Some.ensures.short c.in_ok-write_message-in-Some.ensures.lawful));
    }

pub returns-in_err-write_message-in-Some-clause-sent : goal.returns-in_err-write_message-in-Some-clause-sent
returns-in_err-write_message-in-Some-clause-sent g c =
    let i = c.outbound.inside in
    let p = err_from_is_err_and c.from_residual.result c.from_residual.ensures.1 in
    rw (p.1, p.2) (record {
      lent = record { outbound = refl; lists = refl };
      stamp = rw (← c.outbound.view_is) refl;
      result = rw (← c.outbound.view_is) (appended_line (sessions_of i.numbers i.comp_ids) c.args.self.now.lists.now
          c.args.session c.index-lists-at.result
          c.write_message.new.out c.args.self.now.counted c.requires
          c.in_err-write_message-in-Some.ensures.unchanged_on_err);
    })

pub returns-in-None-clause-sent : goal.returns-in-None-clause-sent
returns-in-None-clause-sent g c =
    let i = c.outbound.inside in
    let there : c.args.session < length i.comp_ids = omega (arith, c.outbound.invariant.comp_ids, c.requires) in
    let off : get_or i.comp_ids c.args.session None ≡ None = get_or_default i.comp_ids c.args.session None _ there
    ∙ c.in-None.is in
    let in_ns = c.outbound.invariant.numbers in
    let in_os = c.outbound.invariant.comp_ids in
    let r = session_of (get_or i.numbers c.args.session 0) (get_or i.comp_ids c.args.session None) in
    record {
      lent = record { outbound = refl; lists = refl };
      stamp = rw (← c.outbound.view_is) refl;
      result = rw (← c.outbound.view_is) (sent_off i.stamp (sessions_of i.numbers i.comp_ids) c.args.self.now.lists.now
          c.args.session r
          (in_sessions i.numbers i.comp_ids in_ns in_os) c.requires
          (read_at i.numbers i.comp_ids in_ns in_os c.args.session 0 None c.requires)
          (gap_fill c.args.first c.args.last) off refl refl refl);
    }

pub returns-in_err-write_message-in-Some-clause-lists_kept : goal.returns-in_err-write_message-in-Some-clause-lists_kept
returns-in_err-write_message-in-Some-clause-lists_kept g c =
    let i = c.outbound.inside in
    let p = err_from_is_err_and c.from_residual.result c.from_residual.ensures.1 in
    rw p.1 (kept_line (sessions_of i.numbers i.comp_ids) c.args.self.now.lists.now c.args.session
    c.index-lists-at.result
    c.write_message.new.out c.args.self.now.counted c.requires
    c.in_err-write_message-in-Some.ensures.unchanged_on_err)
