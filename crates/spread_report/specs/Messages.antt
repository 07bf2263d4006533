-- The messages that a session is sent, one by one.
use Rattle.std.specs.Prelude.{◌≡◌, ℕ, List, ◌++◌, None}
use Rattle.std.specs.List.{AllByRecursion, concat}
use Rattle.fix_wire_frames.specs.Frames.{IsFrame, frames}
use Rattle.spread_rules_rulebook.specs.Rulebook.{Rules}
use Rattle.spread_report.specs.Outgoing.{AppliedEntry, session_steps}
use Rattle.spread_report_outbound.specs.Steps.{steps_texts}

-- all messages that session s is sent over a journal: its first number is 1, and it has no CompIDs before its Logon
abbrev pub messages_to : Rules → List ℕ → List AppliedEntry → ℕ → List (List ℕ)
messages_to rules stamp applied s =
    steps_texts stamp (record { next = 1; comp_ids = None }) (session_steps rules applied s)

-- Each message is a whole frame, and one after the other they are read back as these messages, whatever follows.
pub record AreReadBack (messages : List (List ℕ)) : Type 0 where
  pub whole : AllByRecursion IsFrame messages
  pub read : (more : List ℕ) → frames (concat messages ++ more) ≡ messages ++ frames more
