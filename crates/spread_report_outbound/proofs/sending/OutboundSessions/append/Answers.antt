use Rattle.std.proofs.Common.{◌≡◌, ◌+◌, ◌<◌, true, false, nat_lt, refl, rules, length, get_or, ap, sym, ◌∙◌, subst, arith, List, [], None, Option, Some}
use Rattle.std.proofs.Math.ListN.{set}
use Rattle.std.proofs.lemmas.List.{get_or_default, length-set, set-get_or}
use Rattle.fix_wire.specs.Layout.{message_text}
use Rattle.fix_wire.specs.declared.parties.SpelledParties.{SpelledParties}
use Rattle.spread_report_outbound.specs.declared.session.OutboundSession.{OutboundSession}
use Rattle.spread_report_outbound.specs.declared.session.CompIds.{CompIds}
use Rattle.spread_report_outbound.specs.code.OutboundFields.{AreSpelled, sessions_of}
use Rattle.spread_report_outbound.specs.code.Sending.{Appended}
use Rattle.spread_report_outbound.specs.Steps.{numbered, head_of}
use Rattle.spread_report_outbound.proofs.FrameRows.{written_row}
use Rattle.spread_report_outbound.proofs.OneMessage.{appended_on, appended_off, above_on}
use Rattle.spread_report_outbound.proofs.SessionsOf.{session_of, in_sessions, read_at, numbered_again}
use Rattle.spread_report_outbound.proofs.sending.OutboundSessions.append.Goals as goal

-- no parties, as they are read where there are none
abbrev no_parties : SpelledParties
no_parties = record { bytes = []; len = 0 }

pub returns-then-number-from-clause-spent : goal.returns-then-number-from-clause-spent
returns-then-number-from-clause-spent g c is_spent =
    let i = c.self.inside in
    let there : c.args.session < length i.comp_ids = omega (arith, c.self.invariant.comp_ids, c.requires.session) in
    let is_ids : get_or i.comp_ids c.args.session None ≡ Some c.in-Some.field-0 =
    get_or_default i.comp_ids c.args.session None _ there ∙ c.in-Some.is in
    let in_ns = c.self.invariant.numbers in
    let in_os = c.self.invariant.comp_ids in
    let r = session_of (get_or i.numbers c.args.session 0) (get_or i.comp_ids c.args.session None) in
    let spent : nat_lt 999999999 r.next ≡ true = search (rules, rw c.from.ensures at c.if-number-from.true) in
    rw (← c.self.view_is) (above_on i.stamp (sessions_of i.numbers i.comp_ids) c.args.session
    (numbered c.args.kind (g.B.Body.fields c.args.body.now)) r (in_sessions i.numbers i.comp_ids in_ns in_os)
    c.requires.session (read_at i.numbers i.comp_ids in_ns in_os c.args.session 0 None c.requires.session)
    c.in-Some.field-0 is_ids spent)

pub write_body-requires-clause-parties : goal.write_body-requires-clause-parties
write_body-requires-clause-parties g c =
    let i = c.self.inside in
    let there : c.args.session < length i.comp_ids = omega (arith, c.self.invariant.comp_ids, c.requires.session) in
    let is_ids : get_or i.comp_ids c.args.session None ≡ Some c.in-Some.field-0 =
    get_or_default i.comp_ids c.args.session None _ there ∙ c.in-Some.is in
    let spelled = c.self.invariant.spelled c.args.session c.requires.session c.in-Some.field-0 is_ids no_parties in
    spelled.short

pub invariant_of-self : goal.invariant_of-self
invariant_of-self g c =
    let i = c.self.inside in
    record {
      numbers = c.self.invariant.numbers;
      comp_ids = c.self.invariant.comp_ids;
      spelled = subst (λ (ps : List SpelledParties). AreSpelled i.stamp i.comp_ids ps)
          (sym (set-get_or i.parties c.args.session no_parties)) c.self.invariant.spelled;
    }

pub invariant_of-self-in-Some : goal.invariant_of-self-in-Some
invariant_of-self-in-Some g c =
    let i = c.self.inside in
    record {
      numbers = length-set i.numbers c.args.session (get_or i.numbers c.args.session 0 + 1) ∙ c.self.invariant.numbers;
      comp_ids = c.self.invariant.comp_ids;
      spelled = subst (λ (ps : List SpelledParties). AreSpelled i.stamp i.comp_ids ps)
          (sym (set-get_or i.parties c.args.session no_parties)) c.self.invariant.spelled;
    }

pub returns-in-None-clause-appended : goal.returns-in-None-clause-appended
returns-in-None-clause-appended g c =
    let i = c.self.inside in
    let there : c.args.session < length i.comp_ids = omega (arith, c.self.invariant.comp_ids, c.requires.session) in
    let off : get_or i.comp_ids c.args.session None ≡ None = get_or_default i.comp_ids c.args.session None _ there
    ∙ c.in-None.is in
    let in_ns = c.self.invariant.numbers in
    let in_os = c.self.invariant.comp_ids in
    let r = session_of (get_or i.numbers c.args.session 0) (get_or i.comp_ids c.args.session None) in
    rw (← c.self.view_is) (appended_off i.stamp (sessions_of i.numbers i.comp_ids) c.args.session
    (numbered c.args.kind (g.B.Body.fields c.args.body.now)) r (in_sessions i.numbers i.comp_ids in_ns in_os)
    c.requires.session (read_at i.numbers i.comp_ids in_ns in_os c.args.session 0 None c.requires.session)
    c.args.list.now.items off refl refl refl)

pub returns-in_ok-write_body-in-Some-clause-appended : goal.returns-in_ok-write_body-in-Some-clause-appended
returns-in_ok-write_body-in-Some-clause-appended g c =
    let i = c.self.inside in
    let in_ns = c.self.invariant.numbers in
    let in_os = c.self.invariant.comp_ids in
    let a = sessions_of i.numbers i.comp_ids in
    let ids = c.in-Some.field-0 in
    let there : c.args.session < length i.comp_ids = omega (arith, c.self.invariant.comp_ids, c.requires.session) in
    let is_ids : get_or i.comp_ids c.args.session None ≡ Some ids =
    get_or_default i.comp_ids c.args.session None _ there ∙ c.in-Some.is in
    let fields = g.B.Body.fields c.args.body.now in
    let message = numbered c.args.kind fields in
    let r = session_of (get_or i.numbers c.args.session 0) (get_or i.comp_ids c.args.session None) in
    let after : sessions_of (set i.numbers c.args.session (r.next + 1)) i.comp_ids ≡ set a c.args.session
    (session_of (r.next + 1) (Some ids)) =
    numbered_again i.numbers i.comp_ids c.args.session (r.next + 1)
    ∙ ap (λ (o : Option CompIds). set a c.args.session (session_of (r.next + 1) o)) is_ids in
    let unspent : nat_lt 999999999 r.next ≡ false = search (rules, rw c.from.ensures at c.if-number-from.false) in
    let head = head_of i.stamp ids c.args.kind r.next false in
    let spelled = c.self.invariant.spelled c.args.session c.requires.session ids is_ids no_parties in
    rw (← c.self.view_is) (subst (λ (b : List OutboundSession). Appended i.stamp c.args.session a b
    c.args.list.now.items c.write_body.new.out.items message) (sym after)
    (appended_on i.stamp a c.args.session message r (in_sessions i.numbers i.comp_ids in_ns in_os) c.requires.session
    (read_at i.numbers i.comp_ids in_ns in_os c.args.session 0 None c.requires.session) ids is_ids
    c.args.list.now.items c.write_body.new.out.items (message_text head fields) (r.next + 1)
    (c.in_ok-write_body-in-Some.ensures.ok head (record
    { kind = refl; number = refl; duplicate = refl; parties = spelled })) refl refl unspent
    (written_row head fields c.requires.kind c.requires.tags c.requires.few
    (c.in_ok-write_body-in-Some.ensures.short head (record
    { kind = refl; number = refl; duplicate = refl; parties = spelled }))
    (c.in_ok-write_body-in-Some.ensures.lawful head (record
    { kind = refl; number = refl; duplicate = refl; parties = spelled })))))
