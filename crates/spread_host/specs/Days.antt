-- A day: what a run hands out, and when.
use Rattle.std.specs.Prelude.{◌≡◌, ℕ, Bool, false, ◌⊎◌, if◌then◌else◌, ◌<◌, List, ◌++◌, length, map, Option, IfSome, Err}
use Rattle.std.specs.List.{range_with_len, flat_map, enumerate_from}
use Rattle.std.specs.Result.{IsOkAnd}
use Rattle.spread_rules.specs.declared.event.Entry.{Entry}
use Rattle.spread_rules_rulebook.specs.Rulebook.{Rules, names_of}
use Rattle.fix_wire_frames.specs.Frames.{frames}
use Rattle.spread_journal_lines.specs.JournalText.{journal_text}
use Rattle.spread_rules_ids.specs.declared.limits.TheConstants.{SESSIONS, MAX_JOURNAL_ENTRIES}
use Rattle.spread_rules_ends.specs.Ends.{AppendsPrefix}
use Rattle.intake_lines.specs.LineText.{day_lines_of}
use Rattle.intake_lines.specs.DayLines.{journal_of_lines}
use Rattle.intake_lines.specs.Reading.{IsJournalOf}
use Rattle.apply_desk.specs.Applied.{outgoing_bytes, IsPlaceOf, IsSpentOf, applied_entries}
use Rattle.text_fills.specs.Fills.{fill_line}
use Rattle.text_messages.specs.Messages.{outgoing_line}
use Rattle.text_day.specs.Months.{month_line}
use Rattle.spread_host_faults.specs.declared.fault.HostFault.{HostFault}
use Rattle.spread_host_faults.specs.declared.fault.HostFault.TheVariants as faults

-- what each of the sessions below n is sent over a journal
abbrev pub texts_below : ℕ → Rules → List ℕ → List Entry → List (List ℕ)
texts_below n rules stamp journal = map (outgoing_bytes rules stamp journal) (range_with_len 0 n)

-- The text of a journal's day: the journal, then a line for each fill, for each message of each session, and for each
-- month of the rulebook; or the journal alone.
abbrev pub text_of_day : Bool → Rules → List ℕ → List Entry → List ℕ
text_of_day journal_only rules stamp journal =
    let fills = flat_map (λ w. w.fills) (applied_entries rules journal) in
    let texts = texts_below SESSIONS rules stamp journal in
    if journal_only then journal_text journal
    else journal_text journal ++ flat_map (fill_line rules) fills
    ++ flat_map (λ s. flat_map (outgoing_line s.0) (frames s.1)) (enumerate_from 0 texts)
    ++ flat_map (λ m. month_line m.1 m.0 fills) (enumerate_from 0 (names_of rules))

-- a prefix of the text of this input's day was written, and nothing else
pub record IsPartOut (journal_only : Bool) (rules : Rules) (stamp input : List ℕ) (old new : Option (List ℕ)) : Type 0 where
  pub journal : List Entry
  pub is_of : IsJournalOf input journal
  pub part : AppendsPrefix old new (text_of_day journal_only rules stamp journal)

-- Its source was read to its end when this fault came. Memory may be short before, where no entry was begun.
abbrev pub IsBehindReading : HostFault → Type 0
IsBehindReading faults.Read = ⊥
IsBehindReading (faults.NoMemory place) = 0 < place
IsBehindReading _ = Unit {0}

-- why an input that is read whole has no day; memory may be short before the first entry, at an entry or after the last
abbrev pub IsReplayFault : Rules → Option (List ℕ) → HostFault → Type 0
IsReplayFault rules input (faults.DayLine n) = IfSome input (λ i. day_lines_of i ≡ Err n)
IsReplayFault rules input faults.JournalFull = IfSome input (λ i. IsOkAnd (day_lines_of i)
    (λ lines. MAX_JOURNAL_ENTRIES < length (journal_of_lines lines)))
IsReplayFault rules input (faults.NoMemory place) =
    IfSome input (λ i. (place ≡ 0) ⊎ IsPlaceOf (IsJournalOf i) place)
IsReplayFault rules input (faults.NumbersSpent place) =
    IfSome input (λ i. IsSpentOf rules (IsJournalOf i) place)
IsReplayFault rules input faults.Read = Unit {0}
IsReplayFault rules input faults.Write = Unit {0}
IsReplayFault rules input _ = ⊥
