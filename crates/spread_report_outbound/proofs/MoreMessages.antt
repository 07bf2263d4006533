-- Messages, and more messages after them.
use Rattle.std.proofs.Common.{◌≡◌, ℕ, ◌≤◌, Bool, true, false, List, ◌++◌, ◌||◌, length, take, subst, refl, sym, ap, ◌∙◌, arith, append_assoc, length-append, Ok, Err, Result}
use Rattle.std.proofs.lemmas.List.Folds.{concat-append}
use Rattle.std.proofs.Math.Seq.{take-append_seam}
use Rattle.std.proofs.lemmas.List.{take-take}
use Rattle.std.specs.declared.vec.Vec.{Vec}
use Rattle.spread_report_outbound.specs.declared.session.OutboundSession.{OutboundSession}
use Rattle.spread_report_outbound.specs.declared.fault.DeskFault.{DeskFault}
use Rattle.spread_report_outbound.specs.declared.fault.DeskFault.TheVariants.{NoMemory, NumbersSpent}
use Rattle.spread_report_outbound.specs.code.Addressed.{AddressedStep}
use Rattle.spread_report_outbound.specs.Rows.{IsRow}
use Rattle.spread_report_outbound.specs.code.PerSession.{messages_bytes, texts_to, outbound_after, spends}
use Rattle.spread_report_outbound.proofs.Steps.{outbound_after-append, messages_bytes-append, texts_to-append, spends-append}
use Rattle.spread_report_outbound.proofs.FrameRows.{rows_both}
use Rattle.spread_report_outbound.specs.Sessions.{bytes_of}
use Rattle.spread_report_outbound.specs.code.Sessions.{outbound_at}
use Rattle.spread_report_outbound.specs.code.Sending.{Sends, StaysLent, Sent, OnlyAppended, NumbersRunOut, SendResult}
use Rattle.spread_report_outbound.specs.declared.outbox.Outbox.{Outbox}

pub row-append : (stamp : List ℕ) (s : ℕ) (l k : OutboundSession) (xs ys : List AddressedStep)
    → k ≡ outbound_after s l xs
    → IsRow (texts_to stamp s l xs) (messages_bytes stamp s l xs)
    → IsRow (texts_to stamp s k ys) (messages_bytes stamp s k ys)
    → IsRow (texts_to stamp s l (xs ++ ys)) (messages_bytes stamp s l (xs ++ ys))
row-append stamp s l k xs ys e p q =
    let after : IsRow (texts_to stamp s (outbound_after s l xs) ys) (messages_bytes stamp s (outbound_after s l xs) ys)
    = subst (λ (j : OutboundSession). IsRow (texts_to stamp s j ys) (messages_bytes stamp s j ys)) e q in
    rw (
      texts_to-append stamp s l xs ys,
      concat-append (texts_to stamp s l xs)
          (texts_to stamp s (outbound_after s l xs) ys),
    ) (rows_both (texts_to stamp s l xs)
    (texts_to stamp s (outbound_after s l xs) ys) (messages_bytes stamp s l xs)
    (messages_bytes stamp s (outbound_after s l xs) ys) p after)

or_left : (a b : Bool) → a ≡ true → a || b ≡ true
or_left a b e = rw e refl

or_right : (a b : Bool) → b ≡ true → a || b ≡ true
or_right true b e = refl
or_right false b e = e

or_none : (a b : Bool) → a ≡ false → b ≡ false → a || b ≡ false
or_none a b e f = rw e f

-- what begins with a list begins with its front
pub begins_both : (u v w t : List ℕ) → w ≡ u ++ v → take (length w) t ≡ w → take (length u) t ≡ u
begins_both u v w t e h =
    let n : length u ≤ length w = rw (e, length-append u v) (omega arith) in
    sym (take-take (length u) (length w) t n) ∙ (ap (λ (l : List ℕ). take (length u) l) (h ∙ e) ∙ take-append_seam u v)

module _ {A : Type 0} (stamp : List ℕ) (a b d : List OutboundSession) (x y z : List (Vec ℕ A))
    (ms ns : List AddressedStep) where
  -- these were sent, and then those
  pub sent_both : Sent stamp a b x y ms → Sent stamp b d y z ns → Sent stamp a d x z (ms ++ ns)
  sent_both p q = record {
    sessions = q.sessions ∙ p.sessions;
    lists = q.lists ∙ p.lists;
    bytes = λ s below.
        q.bytes s below
        ∙ (ap (λ (t : List ℕ). t ++ messages_bytes stamp s (outbound_at b s) ns) (p.bytes s below)
        ∙ (append_assoc (bytes_of x s) (messages_bytes stamp s (outbound_at a s) ms)
        (messages_bytes stamp s (outbound_at b s) ns)
        ∙ ap (λ (t : List ℕ). bytes_of x s ++ t)
        (ap (λ (l : OutboundSession). messages_bytes stamp s (outbound_at a s) ms ++ messages_bytes stamp s l ns)
        (p.outbound s below) ∙ sym (messages_bytes-append stamp s (outbound_at a s) ms ns))));
    outbound = λ s below. q.outbound s below ∙ (ap (λ (l : OutboundSession). outbound_after s l ns) (p.outbound s below)
        ∙ sym (outbound_after-append s (outbound_at a s) ms ns));
    comp_ids = λ s below. q.comp_ids s below ∙ p.comp_ids s below;
    unspent = λ s below.
        spends-append s (outbound_at a s) ms ns
        ∙ or_none (spends s (outbound_at a s) ms) (spends s (outbound_after s (outbound_at a s) ms) ns)
        (p.unspent s below) (ap (λ (l : OutboundSession). spends s l ns) (sym (p.outbound s below))
        ∙ q.unspent s below);
    row = λ s below. row-append stamp s (outbound_at a s) (outbound_at b s) ms ns (p.outbound s below) (p.row s below)
        (q.row s below);
  }

  -- these were sent, and then not all of those
  appended_after : Sent stamp a b x y ms → OnlyAppended b d y z → OnlyAppended a d x z
  appended_after p q = record {
    sessions = q.sessions ∙ p.sessions;
    lists = q.lists ∙ p.lists;
    comp_ids = λ s below. q.comp_ids s below ∙ p.comp_ids s below;
    begins = λ s below. begins_both (bytes_of x s) (messages_bytes stamp s (outbound_at a s) ms) (bytes_of y s)
        (bytes_of z s) (p.bytes s below) (q.begins s below);
  }

  spends_after : Sent stamp a b x y ms → NumbersRunOut b ns → NumbersRunOut a (ms ++ ns)
  spends_after p q = record {
    session = q.session;
    below = q.below;
    spent =
        spends-append q.session (outbound_at a q.session) ms ns
        ∙ or_right (spends q.session (outbound_at a q.session) ms)
        (spends q.session (outbound_after q.session (outbound_at a q.session) ms) ns)
        (ap (λ (l : OutboundSession). spends q.session l ns) (sym (p.outbound q.session q.below)) ∙ q.spent);
  }

  -- these were sent, and this became of those
  pub result_after : {T : Type 0} (r : Result T DeskFault) → Sent stamp a b x y ms → SendResult stamp b d y z ns r
      → SendResult stamp a d x z (ms ++ ns) r
  result_after (Ok t) p w = sent_both p w
  result_after (Err NoMemory) p w = appended_after p w
  result_after (Err NumbersSpent) p w = (appended_after p w.0, spends_after p w.1)

module _ {A : Type 0} (stamp : List ℕ) (a b : List OutboundSession) (x y : List (Vec ℕ A)) (ms ns : List AddressedStep)
  where
    spends_first : NumbersRunOut a ms → NumbersRunOut a (ms ++ ns)
    spends_first q = record {
      session = q.session;
      below = q.below;
      spent =
          spends-append q.session (outbound_at a q.session) ms ns
          ∙ or_left (spends q.session (outbound_at a q.session) ms)
          (spends q.session (outbound_after q.session (outbound_at a q.session) ms) ns) q.spent;
    }

    -- where these were not sent, more were not
    pub result_no_more : (T U : Type 0) (f : DeskFault) → SendResult {T = T} stamp a b x y ms (Err f)
        → SendResult {T = U} stamp a b x y (ms ++ ns) (Err f)
    result_no_more T U NoMemory w = w
    result_no_more T U NumbersSpent w = (w.0, spends_first w.1)

-- ---- the same of an outbox

-- everything was sent
abbrev pub all_sent : Result (Unit {0}) DeskFault
all_sent = Ok tt

module _ {A : Type 0} (a b d : Outbox A) where
  lent_both : StaysLent a b → StaysLent b d → StaysLent a d
  lent_both p q = record { outbound = q.outbound ∙ p.outbound; lists = q.lists ∙ p.lists }

  -- these were sent, and this became of those
  pub sends_after : (ms ns : List AddressedStep) {T U : Type 0} (t : U) (r : Result T DeskFault)
      → Sends a b ms (Ok t) → Sends b d ns r → Sends a d (ms ++ ns) r
  sends_after ms ns {T} t r p q =
      let before = a.outbound.now in
      let between = b.outbound.now in
      let after = d.outbound.now in
      let rest : SendResult before.stamp between.sessions after.sessions b.lists.now d.lists.now ns r =
      subst (λ (s : List ℕ). SendResult s between.sessions after.sessions b.lists.now d.lists.now ns r) p.stamp
      q.result in
      record {
        lent = lent_both p.lent q.lent;
        stamp = q.stamp ∙ p.stamp;
        result = result_after before.stamp before.sessions between.sessions after.sessions a.lists.now b.lists.now
            d.lists.now ms ns r p.result rest;
      }

module _ {A : Type 0} (a b : Outbox A) (ms ns : List AddressedStep) where
  -- where these were not sent, more were not
  pub sends_no_more : (T U : Type 0) (f : DeskFault) → Sends {T = T} a b ms (Err f)
      → Sends {T = U} a b (ms ++ ns) (Err f)
  sends_no_more T U f p = record {
    lent = p.lent;
    stamp = p.stamp;
    result = result_no_more a.outbound.now.stamp a.outbound.now.sessions b.outbound.now.sessions a.lists.now
        b.lists.now ms ns T U f p.result;
  }

  -- messages that are the same
  pub sends_same : {T : Type 0} (r : Result T DeskFault) → ms ≡ ns → Sends a b ms r → Sends a b ns r
  sends_same r e w = subst (λ (l : List AddressedStep). Sends a b l r) e w

-- what was sent, or was not, whatever is told besides
module _ {A : Type 0} (a b : Outbox A) (ms : List AddressedStep) where
  pub sends_ok : {T U : Type 0} (t : T) (u : U) → Sends a b ms (Ok t) → Sends a b ms (Ok u)
  sends_ok t u p = record { lent = p.lent; stamp = p.stamp; result = p.result }

  pub sends_err : (T U : Type 0) (f : DeskFault) → Sends {T = T} a b ms (Err f) → Sends {T = U} a b ms (Err f)
  sends_err T U NoMemory p = record { lent = p.lent; stamp = p.stamp; result = p.result }
  sends_err T U NumbersSpent p = record { lent = p.lent; stamp = p.stamp; result = p.result }
