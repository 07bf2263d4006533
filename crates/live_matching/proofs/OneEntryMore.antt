-- Entries that were applied and given to the writers: none, and one more.
use Rattle.std.proofs.Common.{◌≡◌, ◌∙◌, refl, sym, ap, ℕ, ◌≤◌, ◌<◌, List, [], ◌++◌, length, arith, true}
use Rattle.spread_rules.specs.declared.event.Entry.{Entry}
use Rattle.gate_link_stages.specs.declared.post.Poster.{Poster}
use Rattle.spread_report_outbound.specs.code.Sessions.{session_text}
use Rattle.apply_desk.specs.Sending.{HasReported, HasReportedBehind, Sending}
use Rattle.apply_desk.proofs.HandedOn.{behind_at, behind_length, handed_on}
use Rattle.live_matching.specs.code.Posting.{HasMoved, HasPosted, posted_at}
use Rattle.live_matching.specs.declared.posting.PostedEntries.{PostedEntries}

-- no more entries were applied than were taken
pub applied_count : {A : Type 0} (es : List Entry) (p : PostedEntries A) → HasPosted es p
    → p.reported.applied.count ≡ length es
applied_count es p was = was.reported.applied.count

-- giving end marks changes nothing of what was given
pub posted_still : {A : Type 0} (es : List Entry) (a b : PostedEntries A) → HasPosted es a → b.reported ≡ a.reported
    → length b.posters.items ≡ length a.posters.items → ((s : ℕ)
    → posted_at b.posters.items s ≡ posted_at a.posters.items s) → HasPosted es b
posted_still es a b was same count gave =
    let texts : b.reported.texts ≡ a.reported.texts = ap (λ (r : Sending). r.texts) same in
    record {
      reported =
          handed_on (posted_at a.posters.items) (posted_at b.posters.items) es a.reported b.reported was.reported
          (ap (λ (r : Sending). r.applied) same) (ap (λ (r : Sending). r.desk) same)
          (ap (λ (r : Sending). length r.texts) same)
          (λ s. ap (λ (t : List ℕ). t ++ session_text b.reported.texts s) (gave s)
          ∙ ap (λ (ts : List (List ℕ)). posted_at a.posters.items s ++ session_text ts s) texts);
      given = λ s low. ap (λ (ts : List (List ℕ)). session_text ts s) texts ∙ was.given s (omega (arith, count, low));
    }

-- nothing was applied and nothing given
pub posted_none : {A : Type 0} (p : PostedEntries A) → HasReported [] p.reported
    → ((s : ℕ) → posted_at p.posters.items s ≡ [])
    → length p.posters.items ≤ 16 → HasPosted [] p
posted_none p start none few =
    let texts = p.reported.texts in
    let count : length texts ≡ 16 = sym (behind_length (λ s. []) texts) ∙ start.sent.count in
    record {
      reported =
          handed_on (λ s. []) (posted_at p.posters.items) [] p.reported p.reported start refl refl refl
          (λ s. ap (λ (t : List ℕ). t ++ session_text texts s) (none s));
      given = λ s low.
          let below : s < 16 = omega (arith, low, few) in
          sym (behind_at (λ k. []) texts s (omega (arith, below, count))) ∙ start.sent.bytes s below;
    }

-- an entry more was applied, and all that it sends was given
pub posted_more : {A : Type 0} (es : List Entry) (a b : PostedEntries A) (mid : Sending) (ps qs : List (Poster A))
    → ps ≡ a.posters.items → b.posters.items ≡ qs
    → HasReportedBehind (posted_at a.posters.items) es mid → b.reported.applied ≡ mid.applied
    → b.reported.desk ≡ mid.desk
    → length b.reported.texts ≡ length mid.texts → HasMoved true ps mid.texts qs b.reported.texts → HasPosted es b
posted_more {A} es a b mid ps qs old new was applied desk count moved =
    record {
      reported =
          handed_on (posted_at a.posters.items) (posted_at b.posters.items) es mid b.reported was applied desk count
          (λ s.
          ap (λ (rs : List (Poster A)). posted_at rs s ++ session_text b.reported.texts s) new
          ∙ (moved.1 s ∙ ap (λ (rs : List (Poster A)). posted_at rs s ++ session_text mid.texts s) old));
      given = λ s low. moved.0 s (omega (arith, ap length new, low));
    }
