-- Steps one after the other, each with the session that it is of.
-- Words of the code alone.
use Rattle.std.specs.Prelude.{ℕ, ◌+◌, ◌==◌, nat_le, nat_lt, ◌&&◌, ◌||◌, Bool, if◌then◌else◌, List, map, filter}
use Rattle.fix_wire.specs.declared.writer.Field.{Field}
use Rattle.spread_report_outbound.specs.Steps.{OutgoingStep, numbered}

-- A step, and the session that it is of.
pub record AddressedStep : Type 0 where
  pub to : ℕ
  pub step : OutgoingStep

-- a message that bears the session's next number
abbrev pub numbered_message : ℕ → ℕ → List Field → AddressedStep
numbered_message to kind fields = record { to = to; step = numbered kind fields }

-- these steps of one session
abbrev pub steps_to : ℕ → List OutgoingStep → List AddressedStep
steps_to session steps = map (λ step. record { to = session; step = step }) steps

-- those of these steps that are of session s
abbrev pub steps_of : ℕ → List AddressedStep → List OutgoingStep
steps_of s ms = map (λ (m : AddressedStep). m.step) (filter (λ (m : AddressedStep). m.to == s) ms)

-- a tag of 1 to 9 digits
abbrev pub has_tag : Field → Bool
has_tag f = nat_le 1 f.tag && nat_le f.tag 999999999

-- NewSeqNo of a gap fill, where the next number is this and the last one asked for is that; 0 is no end
abbrev pub new_seq_no : ℕ → ℕ → ℕ
new_seq_no next last = if last == 0 || nat_lt next (last + 2) then next else last + 1
