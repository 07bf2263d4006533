-- What some messages send session s, from an outbound state on.
-- Words of the code alone.
use Rattle.std.specs.Prelude.{ℕ, nat_lt, ◌&&◌, ◌||◌, Bool, false, List, [], ◌∷◌, fold}
use Rattle.std.specs.List.{concat}
use Rattle.std.specs.Option.{is_some}
use Rattle.spread_rules_ids.specs.declared.limits.TheConstants.{MAX_MSG_SEQ_NUM}
use Rattle.spread_report_outbound.specs.declared.session.OutboundSession.{OutboundSession}
use Rattle.spread_report_outbound.specs.Steps.{OutgoingStep, numbered, step_texts, steps_texts, after_step}
use Rattle.spread_report_outbound.specs.code.Addressed.{AddressedStep, steps_of}

-- ---- one message

-- the bytes of a step: those of its message, or none
abbrev pub message_bytes : List ℕ → OutboundSession → OutgoingStep → List ℕ
message_bytes stamp out c = concat (step_texts stamp out.comp_ids out.next c)

-- the message that it sends would bear a number above the greatest MsgSeqNum
abbrev pub is_above_limit : OutboundSession → OutgoingStep → Bool
is_above_limit out (numbered kind fields) = is_some out.comp_ids && nat_lt MAX_MSG_SEQ_NUM out.next
is_above_limit out _ = false

-- one of the messages of these steps would bear a number above the limit
abbrev pub pass_limit : OutboundSession → List OutgoingStep → Bool
pass_limit out [] = false
pass_limit out (c ∷ cs) = is_above_limit out c || pass_limit (after_step out c) cs

-- ---- some messages

-- the messages that these send it, and their bytes
abbrev pub texts_to : List ℕ → ℕ → OutboundSession → List AddressedStep → List (List ℕ)
texts_to stamp s out ms = steps_texts stamp out (steps_of s ms)

abbrev pub messages_bytes : List ℕ → ℕ → OutboundSession → List AddressedStep → List ℕ
messages_bytes stamp s out ms = concat (texts_to stamp s out ms)

-- its outbound state after them
abbrev pub outbound_after : ℕ → OutboundSession → List AddressedStep → OutboundSession
outbound_after s out ms = fold after_step out (steps_of s ms)

-- one of them needs a number above the limit
abbrev pub spends : ℕ → OutboundSession → List AddressedStep → Bool
spends s out ms = pass_limit out (steps_of s ms)
