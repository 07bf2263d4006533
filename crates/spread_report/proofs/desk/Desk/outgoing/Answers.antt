use Rattle.std.proofs.Common.{◌≡◌, ℕ, ◌<◌, List, ap, sym, ◌∙◌, rules, MutBor}
use Rattle.std.specs.declared.vec.Vec.{Vec}
use Rattle.spread_rules_ids.specs.declared.limits.TheConstants.{SESSIONS}
use Rattle.spread_report_outbound.specs.code.Addressed.{AddressedStep}
use Rattle.spread_report_outbound.specs.code.Sending.{SendResult, OnlyAppended}
use Rattle.spread_report_outbound.specs.code.Sessions.{OutboundState, outbound_at, texts_of, KeepsBytes}
use Rattle.spread_report_outbound.specs.code.TakingBack.{IsMark, SentSince}
use Rattle.spread_report.specs.Outgoing.{AppliedEntry}
use Rattle.spread_report.specs.code.PerSession.{noted_messages, applied_at, outbound_at_entry}
use Rattle.spread_report.specs.declared.desk.Desk.TheInside.{Inside}
use Rattle.spread_report.proofs.entries.EntryLent.{IsLent, noted_in, sent_in, mark_in, since_in}
use Rattle.spread_report.proofs.entries.EntrySent.{err_sent, sent_unspent, sent_whole, sent_spent}
use Rattle.spread_report.proofs.entries.TakenBack.{after_refusal}
use Rattle.spread_report.proofs.desk.Desk.outgoing.Given.{Over}
use Rattle.spread_report.proofs.desk.Desk.outgoing.Goals.{Joined-is_err, then-is_err, else-is_err}
use Rattle.spread_report.proofs.desk.Desk.outgoing.Goals as goal

module _ (g : Over) (c : Joined-is_err g) where
  abbrev entry : AppliedEntry
  entry = applied_at c.args.place c.args.entry.now c.args.outcome.now c.args.fills.now

  abbrev steps : List AddressedStep
  steps = noted_messages c.args.rules.now entry.place entry.entry.session entry.entry.event entry.outcome entry.fills

  lent : IsLent c.args.self.now c.args.lists.now entry.entry.session entry.entry.event c.new-outbox.result
      c.note_comp_ids.new.outbox
  lent = record {
    outbound = ap (λ (m : MutBor OutboundState). m.now) c.new-outbox.ensures.outbound ∙ c.self.view_is;
    lists_are = ap (λ (m : MutBor (List (Vec ℕ g.row.A.Denot))). m.now) c.new-outbox.ensures.lists;
    stamp = c.note_comp_ids.ensures.stamp;
    same_lists = c.note_comp_ids.ensures.lists;
    sessions = c.note_comp_ids.ensures.noted;
  }

  noted : (s : ℕ) → s < SESSIONS → outbound_at c.note_comp_ids.new.outbox.outbound.now.sessions s
      ≡ outbound_at_entry s (outbound_at c.args.self.now.sessions s) entry.entry.session entry.entry.event
  noted = noted_in c.args.self.now c.args.lists.now entry.entry.session entry.entry.event c.new-outbox.result
      c.note_comp_ids.new.outbox c.send_entry-result.new.outbox lent

  sent : SendResult c.args.self.now.stamp c.note_comp_ids.new.outbox.outbound.now.sessions
      c.send_entry-result.new.outbox.outbound.now.sessions c.args.lists.now
      c.send_entry-result.new.outbox.lists.now steps c.send_entry-result.result
  sent = sent_in c.args.self.now c.args.lists.now entry.entry.session entry.entry.event c.new-outbox.result
      c.note_comp_ids.new.outbox c.send_entry-result.new.outbox lent steps c.send_entry-result.result
      c.send_entry-result.ensures

  marked : IsMark c.mark-mark.result entry.entry.session c.args.self.now (texts_of c.args.lists.now)
  marked = mark_in c.args.self.now c.args.lists.now entry.entry.session entry.entry.event c.new-outbox.result
      c.note_comp_ids.new.outbox c.send_entry-result.new.outbox lent c.mark-mark.result c.mark-mark.ensures

  since : OnlyAppended c.note_comp_ids.new.outbox.outbound.now.sessions
      c.send_entry-result.new.outbox.outbound.now.sessions c.args.lists.now c.send_entry-result.new.outbox.lists.now
      → SentSince entry.entry.session c.args.self.now c.send_entry-result.new.outbox.outbound.now
      (texts_of c.args.lists.now) (texts_of c.send_entry-result.new.outbox.lists.now)
  since = since_in c.args.self.now c.args.lists.now entry.entry.session entry.entry.event c.new-outbox.result
      c.note_comp_ids.new.outbox c.send_entry-result.new.outbox lent steps c.send_entry-result.result
      c.send_entry-result.ensures

pub returns-clause-unspent : goal.returns-clause-unspent
returns-clause-unspent g c =
    sent_unspent c.args.self.now.stamp c.args.rules.now c.args.self.now.sessions
    c.note_comp_ids.new.outbox.outbound.now.sessions c.send_entry-result.new.outbox.outbound.now.sessions
    c.args.lists.now c.send_entry-result.new.outbox.lists.now (entry g c) (noted g c) c.send_entry-result.result
    (sent g c)

pub returns-clause-whole : goal.returns-clause-whole
returns-clause-whole g c =
    sent_whole c.args.self.now.stamp c.args.rules.now c.args.self.now.sessions
    c.note_comp_ids.new.outbox.outbound.now.sessions c.send_entry-result.new.outbox.outbound.now.sessions
    c.args.lists.now c.send_entry-result.new.outbox.lists.now (entry g c) (noted g c) c.send_entry-result.result
    (sent g c)

pub returns-clause-spent : goal.returns-clause-spent
returns-clause-spent g c =
    sent_spent c.args.self.now.stamp c.args.rules.now c.args.self.now.sessions
    c.note_comp_ids.new.outbox.outbound.now.sessions c.send_entry-result.new.outbox.outbound.now.sessions
    c.args.lists.now c.send_entry-result.new.outbox.lists.now (entry g c) (noted g c) c.send_entry-result.result
    (sent g c)

pub returns-clause-desk_kept : goal.returns-clause-desk_kept
returns-clause-desk_kept g c = elim c.if-is_err.branch [
  | then-is_err w ↦ after_refusal (c.if-is_err.self-inside.outbound ≡ c.args.self.now) c.args.self.now.stamp
      c.note_comp_ids.new.outbox.outbound.now.sessions c.send_entry-result.new.outbox.outbound.now.sessions
      c.args.lists.now c.send_entry-result.new.outbox.lists.now (steps g c) c.send_entry-result.result (sent g c)
      (λ grown. ap (λ (d : Inside). d.outbound) w.self-inside-is
      ∙ w.take_back.ensures.sessions (entry g c).entry.session c.args.self.now (texts_of c.args.lists.now)
      (marked g c) (since g c grown))
  | else-is_err w ↦ err_sent _ c.send_entry-result.result (sym c.is_err.ensures.value ∙ w.if-is_err.false)
]

pub returns-clause-lists_kept : goal.returns-clause-lists_kept
returns-clause-lists_kept g c = elim c.if-is_err.branch [
  | then-is_err w ↦
      let after : c.if-is_err.lists ≡ w.take_back.new.self.lists.now = search rules in
      after_refusal (KeepsBytes c.args.lists.now c.if-is_err.lists) c.args.self.now.stamp
      c.note_comp_ids.new.outbox.outbound.now.sessions c.send_entry-result.new.outbox.outbound.now.sessions
      c.args.lists.now c.send_entry-result.new.outbox.lists.now (steps g c) c.send_entry-result.result (sent g c)
      (λ grown. rw after (w.take_back.ensures.lists (entry g c).entry.session c.args.self.now
      (texts_of c.args.lists.now) (marked g c) (since g c grown)))
  | else-is_err w ↦ err_sent _ c.send_entry-result.result (sym c.is_err.ensures.value ∙ w.if-is_err.false)
]
