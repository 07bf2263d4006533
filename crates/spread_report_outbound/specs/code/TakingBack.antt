-- What is noted of the sessions and their lists before an entry, and what may have happened since.
-- Words of the code alone.
use Rattle.std.specs.Prelude.{◌≡◌, ◌≢◌, ℕ, ◌<◌, List, length, take, slice_index_or}
use Rattle.spread_rules_ids.specs.declared.limits.TheConstants.{SESSIONS}
use Rattle.spread_report_outbound.specs.declared.taking_back.Mark.{Mark}
use Rattle.spread_report_outbound.specs.code.Sessions.{OutboundState, session_text, outbound_at}

-- what was noted when the sessions were in this state and their lists had these texts, before an entry of that session
pub record IsMark (m : Mark) (session : ℕ) (before : OutboundState)
    (texts : List (List ℕ)) : Type 0 where
  pub own : m.session ≡ session
  pub count : length before.sessions ≡ SESSIONS
  pub lengths : (s : ℕ) → s < SESSIONS
      → slice_index_or m.lengths s 0 ≡ length (session_text texts s)
  pub numbers : (s : ℕ) → s < SESSIONS
      → slice_index_or m.numbers s 0 ≡ (outbound_at before.sessions s).next
  pub comp_ids : m.comp_ids ≡ (outbound_at before.sessions session).comp_ids

-- since then the stamp stayed, no session but that one got CompIDs, and to lists something was appended
pub record SentSince (session : ℕ) (before now : OutboundState)
    (texts later : List (List ℕ)) : Type 0 where
  pub stamp : now.stamp ≡ before.stamp
  pub comp_ids : (s : ℕ) → s < SESSIONS → s ≢ session
      → (outbound_at now.sessions s).comp_ids ≡ (outbound_at before.sessions s).comp_ids
  pub begins : (s : ℕ) → s < SESSIONS
      → take (length (session_text texts s)) (session_text later s) ≡ session_text texts s
