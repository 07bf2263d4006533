-- What happened to the sessions and their lists where an entry is refused.
use Rattle.std.proofs.Common.{◌≡◌, ◌≢◌, ℕ, ◌<◌, List, sym, ap, ◌∙◌, Err, refl}
use Rattle.std.specs.Prelude.{OnErr, Result, Ok}
use Rattle.std.specs.declared.vec.Vec.{Vec}
use Rattle.std.proofs.lemmas.Bool.{ne_eqb}
use Rattle.spread_rules.specs.declared.event.Event.{Event}
use Rattle.spread_rules.specs.declared.event.Event.TheVariants.{Logon, New, Cancel, Replace, TestReply, Gap, Resend, Reject, Close}
use Rattle.spread_report_outbound.specs.declared.fault.DeskFault.{DeskFault}
use Rattle.spread_report_outbound.specs.declared.fault.DeskFault.TheVariants.{NoMemory, NumbersSpent}
use Rattle.spread_report_outbound.specs.declared.session.OutboundSession.{OutboundSession}
use Rattle.spread_report_outbound.specs.code.Sessions.{OutboundState, texts_of, outbound_at}
use Rattle.spread_report_outbound.specs.code.Addressed.{AddressedStep}
use Rattle.spread_report_outbound.specs.code.Sending.{OnlyAppended, SendResult}
use Rattle.spread_report_outbound.specs.code.TakingBack.{SentSince}
use Rattle.spread_report.specs.code.PerSession.{outbound_at_entry}

entry_other : (s : ℕ) (l : OutboundSession) (session : ℕ) (v : Event) → session ≢ s
    → outbound_at_entry s l session v ≡ l
entry_other s l session (Logon client host beat) apart = rw (ne_eqb session s apart) refl
entry_other s l session (New t) apart = refl
entry_other s l session (Cancel id original) apart = refl
entry_other s l session (Replace original t) apart = refl
entry_other s l session (TestReply answer) apart = refl
entry_other s l session (Gap first) apart = refl
entry_other s l session (Resend first last) apart = refl
entry_other s l session (Reject n reason) apart = refl
entry_other s l session (Close reason) apart = refl

-- the CompIDs that the entry brings are noted, and to lists something is appended
pub sent_since : {A : Type 0} (before noted now : OutboundState) (x y : List (Vec ℕ A)) (session : ℕ) (v : Event)
    → noted.stamp ≡ before.stamp → now.stamp ≡ noted.stamp
    → ((s : ℕ) → s < 16 → outbound_at noted.sessions s ≡ outbound_at_entry s (outbound_at before.sessions s) session v)
    → OnlyAppended noted.sessions now.sessions x y
    → SentSince session before now (texts_of x) (texts_of y)
sent_since before noted now x y session v p q is_noted grown = record {
  stamp = q ∙ p;
  comp_ids = λ s below apart.
      grown.comp_ids s below
      ∙ ap (λ (l : OutboundSession). l.comp_ids) (is_noted s below
      ∙ entry_other s (outbound_at before.sessions s) session v (λ e. apart (sym e)));
  begins = grown.begins;
}

-- what holds after a refusal, holds where there was one
pub after_refusal : {A T : Type 0} (P : Type 0) (stamp : List ℕ) (a b : List OutboundSession) (x y : List (Vec ℕ A))
    (ms : List AddressedStep) (r : Result T DeskFault) → SendResult stamp a b x y ms r → (OnlyAppended a b x y → P)
    → OnErr r P
after_refusal P stamp a b x y ms (Ok t) w f = tt
after_refusal P stamp a b x y ms (Err NoMemory) w f = f w
after_refusal P stamp a b x y ms (Err NumbersSpent) w f = f w.0
