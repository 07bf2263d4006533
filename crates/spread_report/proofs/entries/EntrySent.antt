-- What an entry that was sent did to each session, from what sending its messages did.
use Rattle.std.proofs.Common.{◌≡◌, ℕ, ◌<◌, ◌==◌, ◌++◌, ◌||◌, Bool, true, false, List, [], refl, ap, sym, subst, ◌∙◌, ◌⊎◌, inl, inr, Option, Some, None, Result, Ok, Err}
use Rattle.std.specs.List.{concat}
use Rattle.std.proofs.lemmas.Bool.{false≢true}
use Rattle.spread_rules.specs.declared.fill.Fill.{Fill}
use Rattle.spread_rules.specs.declared.event.Event.{Event}
use Rattle.spread_rules.specs.declared.event.Event.TheVariants.{Logon, New, Cancel, Replace, TestReply, Gap, Resend, Reject, Close}
use Rattle.spread_rules.specs.declared.outcome.Outcome.{Outcome}
use Rattle.std.specs.Result.{OnOk, OnErr, IsErrOf, is_err}
use Rattle.std.specs.declared.vec.Vec.{Vec}
use Rattle.spread_rules_rulebook.specs.Rulebook.{Rules}
use Rattle.spread_report_outbound.specs.declared.fault.DeskFault.{DeskFault}
use Rattle.spread_report_outbound.specs.declared.fault.DeskFault.TheVariants.{NoMemory, NumbersSpent}
use Rattle.spread_report_outbound.specs.declared.session.OutboundSession.{OutboundSession}
use Rattle.spread_report_outbound.specs.Steps.{logged_on, step_texts}
use Rattle.spread_report_outbound.specs.declared.session.CompIds.{CompIds}
use Rattle.spread_report_outbound.specs.Rows.{IsRow}
use Rattle.spread_report.specs.Outgoing.{AppliedEntry}
use Rattle.spread_report_outbound.specs.code.Addressed.{AddressedStep}
use Rattle.spread_report.specs.code.Addressed.{event_messages, entry_messages}
use Rattle.spread_report_outbound.specs.code.PerSession.{texts_to, messages_bytes, outbound_after, spends}
use Rattle.spread_report.specs.code.PerSession.{entry_texts, entry_bytes, entry_outbound, entry_spends, opening, noted_messages, outbound_at_entry}
use Rattle.spread_report_outbound.proofs.Steps.{outbound_after-append, texts_to-append, spends-append}
use Rattle.spread_report_outbound.specs.Sessions.{bytes_of}
use Rattle.spread_report_outbound.specs.code.Sessions.{outbound_at}
use Rattle.spread_report.specs.Running.{RunsOut}
use Rattle.spread_report_outbound.specs.code.Sending.{SendResult}

-- what is said of an answer of the other kind
pub ok_refused : {T E : Type 0} (P : Type 0) (r : Result T E) → is_err r ≡ true → OnOk r P
ok_refused P (Ok t) refused = absurd (false≢true refused)
ok_refused P (Err fault) refused = tt

pub err_sent : {T E : Type 0} (P : Type 0) (r : Result T E) → is_err r ≡ false → OnErr r P
err_sent P (Ok t) sent = tt
err_sent P (Err fault) sent = absurd (false≢true (sym sent))

-- ---- what a Logon opens, and what is sent then

entry_split : (rules : Rules) (place session : ℕ) (v : Event) (outcome : Outcome) (fills : List Fill)
    → event_messages rules place session v outcome fills ≡ opening session v
    ++ noted_messages rules place session v outcome fills
entry_split rules place session (Logon client host beat) outcome fills = refl
entry_split rules place session (New t) outcome fills = refl
entry_split rules place session (Cancel id original) outcome fills = refl
entry_split rules place session (Replace original t) outcome fills = refl
entry_split rules place session (TestReply answer) outcome fills = refl
entry_split rules place session (Gap first) outcome fills = refl
entry_split rules place session (Resend first last) outcome fills = refl
entry_split rules place session (Reject n reason) outcome fills = refl
entry_split rules place session (Close reason) outcome fills = refl

either : (b : Bool) → (b ≡ true) ⊎ (b ≡ false)
either true = inl refl
either false = inr refl

none_sent : (stamp : List ℕ) (o : Option CompIds) (next : ℕ) (ids : CompIds)
    → step_texts stamp o next (logged_on ids) ≡ []
none_sent stamp None next ids = refl
none_sent stamp (Some old) next ids = refl

-- it sends nothing by itself, and notes the CompIDs
record Opened (stamp : List ℕ) (s : ℕ) (l : OutboundSession) (session : ℕ) (v : Event) : Type 0 where
  texts : texts_to stamp s l (opening session v) ≡ []
  after : outbound_after s l (opening session v) ≡ outbound_at_entry s l session v
  spent : spends s l (opening session v) ≡ false

opened : (stamp : List ℕ) (s : ℕ) (l : OutboundSession) (session : ℕ) (v : Event) → Opened stamp s l session v
opened stamp s l session (Logon client host beat) = elim (either (session == s)) [
  | inl e ↦ record {
    texts = rw (e, none_sent stamp l.comp_ids l.next (record { client = client; host = host })) refl;
    after = rw e refl;
    spent = rw e refl;
  }
  | inr e ↦ record { texts = rw e refl; after = rw e refl; spent = rw e refl }
]
opened stamp s l session (New t) = record { texts = refl; after = refl; spent = refl }
opened stamp s l session (Cancel id original) = record { texts = refl; after = refl; spent = refl }
opened stamp s l session (Replace original t) = record { texts = refl; after = refl; spent = refl }
opened stamp s l session (TestReply answer) = record { texts = refl; after = refl; spent = refl }
opened stamp s l session (Gap first) = record { texts = refl; after = refl; spent = refl }
opened stamp s l session (Resend first last) = record { texts = refl; after = refl; spent = refl }
opened stamp s l session (Reject n reason) = record { texts = refl; after = refl; spent = refl }
opened stamp s l session (Close reason) = record { texts = refl; after = refl; spent = refl }

-- what an entry sends when they are noted
abbrev noted_of : Rules → AppliedEntry → List AddressedStep
noted_of rules w = noted_messages rules w.place w.entry.session w.entry.event w.outcome w.fills

module _ (stamp : List ℕ) (rules : Rules) (s : ℕ) (l : OutboundSession) (w : AppliedEntry) where
  abbrev noted : List AddressedStep
  noted = noted_of rules w

  abbrev first : List AddressedStep
  first = opening w.entry.session w.entry.event

  abbrev there : OutboundSession
  there = outbound_at_entry s l w.entry.session w.entry.event

  split : entry_messages rules w ≡ first ++ noted
  split = entry_split rules w.place w.entry.session w.entry.event w.outcome w.fills

  known : Opened stamp s l w.entry.session w.entry.event
  known = opened stamp s l w.entry.session w.entry.event

  entry_texts_is : entry_texts stamp rules s l w ≡ texts_to stamp s there noted
  entry_texts_is =
      ap (texts_to stamp s l) split ∙ texts_to-append stamp s l first noted
      ∙ ap (λ (t : List (List ℕ)). t ++ texts_to stamp s (outbound_after s l first) noted) known.texts
      ∙ ap (λ (o : OutboundSession). texts_to stamp s o noted) known.after

  entry_bytes_is : entry_bytes stamp rules s l w ≡ messages_bytes stamp s there noted
  entry_bytes_is = ap concat entry_texts_is

  entry_outbound_is : entry_outbound rules s l w ≡ outbound_after s there noted
  entry_outbound_is =
      ap (outbound_after s l) split ∙ outbound_after-append s l first noted
      ∙ ap (λ (o : OutboundSession). outbound_after s o noted) known.after

  entry_spends_is : entry_spends rules s l w ≡ spends s there noted
  entry_spends_is =
      ap (spends s l) split ∙ spends-append s l first noted
      ∙ ap (λ (b : Bool). b || spends s (outbound_after s l first) noted) known.spent
      ∙ ap (λ (o : OutboundSession). spends s o noted) known.after

-- the sessions `a` before the entry, `k` with the CompIDs that it brings, and `b` after it
module _ {A T : Type 0} (stamp : List ℕ) (rules : Rules) (a k b : List OutboundSession) (x y : List (Vec ℕ A))
    (w : AppliedEntry)
    (is_noted : (s : ℕ) → s < 16 → outbound_at k s ≡ outbound_at_entry s (outbound_at a s) w.entry.session
    w.entry.event) where
  pub sent_bytes : (r : Result T DeskFault) → SendResult stamp k b x y (noted_of rules w) r
      → OnOk r ((s : ℕ) → s < 16 → bytes_of y s ≡ bytes_of x s ++ entry_bytes stamp rules s (outbound_at a s) w)
  sent_bytes (Ok t) sent = λ s below.
      sent.bytes s below
      ∙ ap (λ (t : List ℕ). bytes_of x s ++ t) (ap (λ (o : OutboundSession). messages_bytes stamp s o
      (noted_of rules w)) (is_noted s below) ∙ sym (entry_bytes_is stamp rules s (outbound_at a s) w))
  sent_bytes (Err fault) sent = tt

  pub sent_outbound : (r : Result T DeskFault) → SendResult stamp k b x y (noted_of rules w) r
      → OnOk r ((s : ℕ) → s < 16 → outbound_at b s ≡ entry_outbound rules s (outbound_at a s) w)
  sent_outbound (Ok t) sent = λ s below.
      sent.outbound s below ∙ (ap (λ (o : OutboundSession). outbound_after s o (noted_of rules w)) (is_noted s below)
      ∙ sym (entry_outbound_is stamp rules s (outbound_at a s) w))
  sent_outbound (Err fault) sent = tt

  pub sent_unspent : (r : Result T DeskFault) → SendResult stamp k b x y (noted_of rules w) r
      → OnOk r ((s : ℕ) → s < 16 → entry_spends rules s (outbound_at a s) w ≡ false)
  sent_unspent (Ok t) sent = λ s below.
      entry_spends_is stamp rules s (outbound_at a s) w ∙
      (ap (λ (o : OutboundSession). spends s o (noted_of rules w)) (sym (is_noted s below)) ∙ sent.unspent s below)
  sent_unspent (Err fault) sent = tt

  pub sent_whole : (r : Result T DeskFault) → SendResult stamp k b x y (noted_of rules w) r
      → OnOk r ((s : ℕ) → s < 16 → IsRow (entry_texts stamp rules s (outbound_at a s) w)
      (entry_bytes stamp rules s (outbound_at a s) w))
  sent_whole (Ok t) sent = λ s below.
      subst (λ (ts : List (List ℕ)). IsRow ts (concat ts))
      (ap (λ (o : OutboundSession). texts_to stamp s o (noted_of rules w)) (is_noted s below)
      ∙ sym (entry_texts_is stamp rules s (outbound_at a s) w)) (sent.row s below)
  sent_whole (Err fault) sent = tt

  pub sent_spent : (r : Result T DeskFault) → SendResult stamp k b x y (noted_of rules w) r → IsErrOf r NumbersSpent
      → RunsOut rules a w
  sent_spent (Ok t) sent is = absurd (let both : Ok t ≡ Err NumbersSpent = is in cc)
  sent_spent (Err NoMemory) sent is = absurd (let both : Err NoMemory ≡ Err NumbersSpent = is in cc)
  sent_spent (Err NumbersSpent) sent is =
      let out = sent.1 in record {
        session = out.session;
        below = out.below;
        spent =
            entry_spends_is stamp rules out.session (outbound_at a out.session) w
            ∙ (ap (λ (o : OutboundSession). spends out.session o (noted_of rules w))
            (sym (is_noted out.session out.below)) ∙ out.spent);
      }
