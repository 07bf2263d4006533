-- What the fields of the outbound sessions say. Words of the code alone.
use Rattle.std.specs.Prelude.{◌≡◌, ℕ, ◌<◌, List, [], ◌∷◌, length, slice_index_or, Option, Some, None}
use Rattle.spread_rules_ids.specs.declared.limits.TheConstants.{SESSIONS}
use Rattle.fix_wire.specs.declared.parties.SpelledParties.{SpelledParties}
use Rattle.fix_wire.specs.Layout.{SpellsParties}
use Rattle.spread_report_outbound.specs.declared.session.CompIds.{CompIds}
use Rattle.spread_report_outbound.specs.declared.session.OutboundSession.{OutboundSession}
use Rattle.spread_report_outbound.specs.declared.sending.OutboundSessions.TheInside.{Inside}
use Rattle.spread_report_outbound.specs.code.Sessions.{OutboundState}

-- each session with its next number and its CompIDs
abbrev pub sessions_of : List ℕ → List (Option CompIds) → List OutboundSession
sessions_of [] os = []
sessions_of (n ∷ ns) [] = []
sessions_of (n ∷ ns) (o ∷ os) = record { next = n; comp_ids = o } ∷ sessions_of ns os

-- what callers see of the sessions
abbrev pub state_of : Inside → OutboundState
state_of d = record { stamp = d.stamp; sessions = sessions_of d.numbers d.comp_ids }

-- of each session that has CompIDs, these and the stamp are spelled
abbrev pub AreSpelled : List ℕ → List (Option CompIds) → List SpelledParties → Type 0
AreSpelled stamp comp_ids parties = (s : ℕ) → s < SESSIONS → (ids : CompIds)
    → slice_index_or comp_ids s None ≡ Some ids → (p : SpelledParties)
    → SpellsParties (slice_index_or parties s p) ids.host ids.client stamp

-- each session has a number and may have CompIDs, which are spelled then
pub record AreKept (d : Inside) : Type 0 where
  pub numbers : length d.numbers ≡ SESSIONS
  pub comp_ids : length d.comp_ids ≡ SESSIONS
  pub spelled : AreSpelled d.stamp d.comp_ids d.parties
