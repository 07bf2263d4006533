-- What the writers have, and what stands in the lists of the sessions without one, is what the sessions are sent.
use Rattle.std.proofs.Common.{◌≡◌, ◌∙◌, sym, ap, ℕ, ◌<◌, ◌≤◌, List, ◌++◌, length, inl, inr, arith, append-nil}
use Rattle.std.proofs.lemmas.Bool.{cases_lt}
use Rattle.spread_rules.specs.declared.event.Entry.{Entry}
use Rattle.spread_report_outbound.specs.code.Sessions.{session_text}
use Rattle.gate_link_sessions.proofs.PartOfASession.{row_past}
use Rattle.gate_link_stages.specs.Posting.{posted}
use Rattle.apply_desk.specs.Applied.{outgoing_bytes}
use Rattle.apply_desk.specs.Sending.{sending_rules, stamp_of}
use Rattle.apply_desk.proofs.HandedOn.{behind_at, behind_length}
use Rattle.live_matching.specs.code.Posting.{HasPosted, posted_at}
use Rattle.live_matching.specs.declared.posting.PostedEntries.{PostedEntries}

pub collected : {A : Type 0} (es : List Entry) (p : PostedEntries A) (out : ℕ → List ℕ) → HasPosted es p
    → ((s : ℕ) → s < length p.posters.items → out s ≡ posted_at p.posters.items s)
    → ((s : ℕ) → length p.posters.items ≤ s → out s ≡ session_text p.reported.texts s)
    → (s : ℕ) → s < 16 → out s ≡ outgoing_bytes (sending_rules p.reported) (stamp_of p.reported) es s
collected es p out was writers others s low =
    let ps = p.posters.items in
    let texts = p.reported.texts in
    let n : s < length texts = omega (arith, low, behind_length (posted_at ps) texts, was.reported.sent.count) in
    let sent = sym (behind_at (posted_at ps) texts s n) ∙ was.reported.sent.bytes s low in
    elim (cases_lt s (length ps)) [
      | inl here ↦ writers s here ∙ (sym (append-nil (posted_at ps s))
          ∙ (ap (λ (t : List ℕ). posted_at ps s ++ t) (sym (was.given s here)) ∙ sent))
      | inr past ↦ others s past ∙ (ap (λ (t : List ℕ). t ++ session_text texts s) (sym (row_past posted ps s past))
          ∙ sent)
    ]
