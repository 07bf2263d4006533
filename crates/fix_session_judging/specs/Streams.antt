-- What the bytes of a stream say.
use Rattle.std.specs.Prelude.{ℕ, Bool, List, [], ◌∷◌, ◌++◌, length, filter_map, option_map, if◌then◌else◌}
use Rattle.spread_rules.specs.declared.codes.close_reason.TheConstants.{STREAM_ENDED}
use Rattle.spread_rules.specs.declared.event.Event.{Event}
use Rattle.spread_rules.specs.declared.event.Event.TheVariants as variant
use Rattle.fix_wire_frames.specs.Frames.{frames}
use Rattle.fix_wire_frames.specs.Messages.{number}
use Rattle.fix_session_judging.specs.View.{Numbered}
use Rattle.fix_session_judging.specs.Places.{live, message_events}

-- the messages of a stream: the frames whose number can be read. Rule S2.
abbrev pub messages : List ℕ → List Numbered
messages stream =
    filter_map (λ m. option_map (λ n. record { number = n; text = m }) (number m)) (frames stream)

-- the events of a stream
abbrev pub events : List ℕ → List Event
events stream = message_events (messages stream)

-- no place of it closes
abbrev pub stays_open : List ℕ → Bool
stays_open stream = live (messages stream) (length (messages stream))

-- the events of a stream, and a close at its end where no place closes
abbrev pub whole : List ℕ → List Event
whole stream =
    events stream ++ (if stays_open stream then variant.Close STREAM_ENDED ∷ [] else [])
