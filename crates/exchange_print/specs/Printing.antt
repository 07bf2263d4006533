-- Which days can be written as text, and what the thread hands back that writes one.
use Rattle.std.specs.Prelude.{ℕ, Bool, List, ◌++◌, ◌≤◌, All, Option, length}
use Rattle.std.specs.declared.alloc.Global.{Global}
use Rattle.std.specs.declared.vec.Vec.{Vec}
use Rattle.spread_rules_ids.specs.declared.limits.TheConstants.{SESSIONS}
use Rattle.spread_rules_rulebook.specs.Rulebook.{Rules}
use Rattle.spread_rules.specs.declared.event.Entry.{Entry}
use Rattle.spread_rules.specs.declared.fill.Fill.{Fill}
use Rattle.spread_journal_lines.specs.JournalText.{journal_text}
use Rattle.fix_wire_frames.specs.Frames.{IsFrameRow}
use Rattle.text_day.specs.DayText.{AreShown}
use Rattle.text_day.specs.code.Months.{month_lines}
use Rattle.text_day.specs.declared.day_text.Day.{Day}
use Rattle.text_fills.specs.code.Fills.{fill_lines}
use Rattle.text_messages.specs.Messages.{texts_of}
use Rattle.text_messages.specs.code.Blocks.{Writes}
use Rattle.text_messages.specs.code.Messages.{outgoing_lines_from}
use Rattle.text_ring.specs.Ends.{text_taken, IsRead, SameSource}
use Rattle.text_ring.specs.declared.source.BlockSource.{BlockSource}
use Rattle.exchange_print.specs.declared.printing.WrittenText.{WrittenText}

-- fills that a text can show, and at most sixteen lists of whole frames
abbrev pub ArePrintable : {A : Type 0} → Rules → List Fill → List (Vec ℕ A) → Type 0
ArePrintable rules fills out =
    (length out ≤ SESSIONS) × All IsFrameRow (texts_of out) × AreShown rules fills

-- a day of these
abbrev pub IsPrintable : {A : Type 0} → Rules → Day A → Type 0
IsPrintable rules day = ArePrintable rules day.fills.items day.out.items

-- what stands behind the journal in a day's text
abbrev pub behind_text : {A : Type 0} → Rules → List Fill → List (Vec ℕ A) → List ℕ
behind_text rules fills out =
    fill_lines rules fills ++ outgoing_lines_from 0 (texts_of out) ++ month_lines rules fills

-- The journal's text was written, and behind it what came through the ring up to its mark; or a front of these, and the
-- sink failed.
pub record HasWritten {K : Type 0} (old new : Option (List ℕ)) (has_failed : Bool) (journal : List Entry)
    (source : BlockSource Global) (w : WrittenText K) : Type 0 where
  pub writes : Writes w.result old new has_failed (journal_text journal ++ text_taken w.source)
  pub read : IsRead w.source
  pub ring : SameSource source w.source
