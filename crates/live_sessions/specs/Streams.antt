-- The streams of a day in threads, and the events that they have.
use Rattle.std.specs.Prelude.{ℕ, ◌≤◌, List, [], map, length, slice_index_or, sum_by, Vec}
use mathlib.Core.List.{IsPrefix}
use Rattle.spread_rules.specs.declared.event.Event.{Event}
use Rattle.spread_rules.specs.declared.event.Entry.{Entry}
use Rattle.spread_rules.specs.Journal.{restricted}
use Rattle.fix_session_judging.specs.Streams.{whole}

-- the events of stream s, its close included, and none where there is no such stream
abbrev pub whole_at : {A : Type 0} → List (Vec ℕ A) → ℕ → List Event
whole_at {A} streams s = slice_index_or (map (λ (v : Vec ℕ A). whole v.items) streams) s []

-- how many events all streams have together
abbrev pub all_events : {A : Type 0} → List (Vec ℕ A) → ℕ
all_events {A} streams = sum_by (λ (v : Vec ℕ A). length (whole v.items)) streams

-- of each session, the journal has a beginning of the events of its stream
abbrev pub IsBeginningOf : {A : Type 0} → List (Vec ℕ A) → List Entry → Type 0
IsBeginningOf streams journal = (s : ℕ) → IsPrefix (restricted s journal) (whole_at streams s)

-- such a journal, with no more entries than there is room for
abbrev pub IsBeginningWithin : {A : Type 0} → List (Vec ℕ A) → ℕ → List Entry → Type 0
IsBeginningWithin streams room journal = IsBeginningOf streams journal × (length journal ≤ room)
