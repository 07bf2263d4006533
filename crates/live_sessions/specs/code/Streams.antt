-- Words of the code alone, beside `Streams`: no promise of a whole day needs them to be read.
use Rattle.std.specs.Prelude.{ℕ, List, [], Vec}
use Rattle.spread_rules.specs.declared.event.Event.{Event}
use Rattle.fix_session_judging.specs.Streams.{whole}

-- the events of a stream, its close included
abbrev pub whole_stream : {A : Type 0} → Vec ℕ A → List Event
whole_stream v = whole v.items
