-- Words of the code alone, beside `Streams`: no promise of a whole day needs them to be read.
use Rattle.std.specs.Prelude.{ℕ, Bool, List, [], ◌∷◌, ◌++◌, length, filter_map, if◌then◌else◌}
use Rattle.spread_rules.specs.declared.codes.close_reason.TheConstants.{STREAM_ENDED}
use Rattle.spread_rules.specs.declared.event.Event.{Event}
use Rattle.spread_rules.specs.declared.event.Event.TheVariants as variant
use Rattle.fix_session_judging.specs.code.View.{numbered}
use Rattle.fix_session_judging.specs.Places.{live, message_events}

abbrev pub events_of : List (List ℕ) → List Event
events_of fs = message_events (filter_map numbered fs)

abbrev pub stays_open_of : List (List ℕ) → Bool
stays_open_of fs = live (filter_map numbered fs) (length (filter_map numbered fs))

abbrev pub whole_of : List (List ℕ) → List Event
whole_of fs =
    events_of fs ++ (if stays_open_of fs then variant.Close STREAM_ENDED ∷ [] else [])
