-- The outbox of an entry: what was lent to it, and what was sent through it once the entry's CompIDs were noted.
use Rattle.std.proofs.Common.{◌≡◌, ℕ, ◌<◌, List, subst, ap, ◌∙◌}
use Rattle.std.specs.Prelude.{Result}
use Rattle.std.specs.declared.vec.Vec.{Vec}
use Rattle.spread_rules_ids.specs.declared.limits.TheConstants.{SESSIONS}
use Rattle.spread_rules.specs.declared.event.Event.{Event}
use Rattle.spread_report_outbound.specs.declared.fault.DeskFault.{DeskFault}
use Rattle.spread_report_outbound.specs.declared.outbox.Outbox.{Outbox}
use Rattle.spread_report_outbound.specs.declared.taking_back.Mark.{Mark}
use Rattle.spread_report_outbound.specs.code.Addressed.{AddressedStep}
use Rattle.spread_report_outbound.specs.code.Sending.{Sends, SendResult, OnlyAppended}
use Rattle.spread_report_outbound.specs.code.Sessions.{OutboundState, outbound_at, texts_of}
use Rattle.spread_report_outbound.specs.code.TakingBack.{IsMark, SentSince}
use Rattle.spread_report.specs.code.PerSession.{outbound_at_entry}
use Rattle.spread_report.proofs.entries.TakenBack.{sent_since}

-- the desk's sessions and these lists were lent, and then the CompIDs of an event of that session were noted
pub record IsLent {A : Type 0} (desk : OutboundState) (lists : List (Vec ℕ A)) (session : ℕ) (event : Event)
    (start noted : Outbox A) : Type 0 where
  pub outbound : start.outbound.now ≡ desk
  pub lists_are : start.lists.now ≡ lists
  pub stamp : noted.outbound.now.stamp ≡ start.outbound.now.stamp
  pub same_lists : noted.lists.now ≡ start.lists.now
  pub sessions : (s : ℕ) → s < SESSIONS → outbound_at noted.outbound.now.sessions s
      ≡ outbound_at_entry s (outbound_at start.outbound.now.sessions s) session event

module _ {A : Type 0} (desk : OutboundState) (lists : List (Vec ℕ A)) (session : ℕ) (event : Event)
    (start noted last : Outbox A) (lent : IsLent desk lists session event start noted) where
  pub noted_in : (s : ℕ) → s < SESSIONS → outbound_at noted.outbound.now.sessions s
      ≡ outbound_at_entry s (outbound_at desk.sessions s) session event
  noted_in =
      subst (λ (d : OutboundState). (s : ℕ) → s < SESSIONS → outbound_at noted.outbound.now.sessions s
      ≡ outbound_at_entry s (outbound_at d.sessions s) session event) lent.outbound lent.sessions

  pub stamp_in : noted.outbound.now.stamp ≡ desk.stamp
  stamp_in = lent.stamp ∙ ap (λ (d : OutboundState). d.stamp) lent.outbound

  pub sent_in : {T : Type 0} (ms : List AddressedStep) (r : Result T DeskFault) → Sends noted last ms r
      → SendResult desk.stamp noted.outbound.now.sessions last.outbound.now.sessions lists last.lists.now ms r
  sent_in ms r sent =
      let a = noted.outbound.now.sessions in
      let b = last.outbound.now.sessions in
      subst (λ (x : List (Vec ℕ A)). SendResult desk.stamp a b x last.lists.now ms r) (lent.same_lists ∙ lent.lists_are)
      (subst (λ (t : List ℕ). SendResult t a b noted.lists.now last.lists.now ms r) stamp_in sent.result)

  pub mark_in : (m : Mark) → IsMark m session start.outbound.now (texts_of start.lists.now)
      → IsMark m session desk (texts_of lists)
  mark_in m is =
      subst (λ (x : List (Vec ℕ A)). IsMark m session desk (texts_of x)) lent.lists_are
      (subst (λ (d : OutboundState). IsMark m session d (texts_of start.lists.now)) lent.outbound is)

  -- what happened until the entry is refused
  pub since_in : {T : Type 0} (ms : List AddressedStep) (r : Result T DeskFault) → Sends noted last ms r
      → OnlyAppended noted.outbound.now.sessions last.outbound.now.sessions lists last.lists.now
      → SentSince session desk last.outbound.now (texts_of lists) (texts_of last.lists.now)
  since_in ms r sent grown =
      sent_since desk noted.outbound.now last.outbound.now lists last.lists.now session event stamp_in sent.stamp
      noted_in
      grown
