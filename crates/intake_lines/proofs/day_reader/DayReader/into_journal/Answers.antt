use Rattle.std.proofs.Common.{◌≡◌, ℕ, ◌<◌, Bool, true, List, Result, length, sym, ap, ◌∙◌, subst, arith}
use Rattle.std.specs.Result.{IsOkAnd}
use Rattle.fix_wire_frames.specs.Texts.{with_soh}
use Rattle.spread_rules.specs.declared.event.Entry.{Entry}
use Rattle.spread_rules.specs.Journal.{IsLawful, restricted}
use Rattle.intake_lines.specs.code.OneByOne.{one_line}
use Rattle.intake_lines.specs.LineText.{DayLine}
use Rattle.intake_lines.specs.DayLines.{journal_of_lines}
use Rattle.intake_lines.specs.JournalParts.{part_of}
use Rattle.intake_lines.specs.code.LineSessions.{TakesLine}
use Rattle.intake_lines.specs.code.PiecesRead.{HasRead}
use Rattle.intake_lines.proofs.SaidAsAWhole.{said_at_once}
use Rattle.intake_lines.proofs.PiecesReadInTurn.{stopped_said, last_bad, ended, IsWholeJournal}
use Rattle.intake_lines.proofs.day_reader.DayReader.into_journal.Goals as goal
use Rattle.intake_lines.proofs.day_reader.DayReader.into_journal.Goals.{In_ok-journal}

pub take_line-requires : goal.take_line-requires
take_line-requires g c = let h = c.requires.1.going c.in_default.is in (h.done, h.fed)

pub returns-in-Some-clause-fault : goal.returns-in-Some-clause-fault
returns-in-Some-clause-fault g c input had = sym (said_at_once input)
    ∙ stopped_said (with_soh input) c.in-Some.line (had.stopped c.in-Some.line c.in-Some.is)

pub returns-then-not-is_good-clause-fault : goal.returns-then-not-is_good-clause-fault
returns-then-not-is_good-clause-fault g c input had =
    let r = c.args.self in
    let rest = c.deref.ensures.value in
    let says = subst (λ (good : Bool). TakesLine good c.deref.result.now r.line_sessions c.take_line.new.self)
    c.if-not-is_good.true c.in_ok-is_good.ensures in
    sym (said_at_once input) ∙ last_bad (with_soh input) r (had.going c.in_default.is) (ap one_line (sym rest) ∙ says)

-- the journal of a text that was read to its end
whole : (g : _) (c : In_ok-journal g) (text : List ℕ) → HasRead text c.args.self
    → IsWholeJournal text c.in_ok-journal.journal.items
whole g c text had =
    let r = c.args.self in
    let takes = subst (λ (t : List ℕ). TakesLine true t r.line_sessions c.take_line.new.self) c.deref.ensures.value
    (subst (λ (good : Bool). TakesLine good c.deref.result.now r.line_sessions c.take_line.new.self)
    c.if-not-is_good.false c.in_ok-is_good.ensures) in
    ended text r c.take_line.new.self c.in_ok-journal.journal.items had c.in_default.is takes c.in_ok-journal.ensures

pub returns-then-len-gt-MAX_JOURNAL_ENTRIES-clause-fault : goal.returns-then-len-gt-MAX_JOURNAL_ENTRIES-clause-fault
returns-then-len-gt-MAX_JOURNAL_ENTRIES-clause-fault g c input had =
    let all = whole g ((goal.at.returns-then-len-gt-MAX_JOURNAL_ENTRIES-clause-fault g c).In_ok-journal)
    (with_soh input) had in
    let n : c.len.result ≡ length c.in_ok-journal.journal.items = c.len.ensures ∙ c.in_ok-journal.journal.ok.0 in
    let l : length c.in_ok-journal.journal.items ≡ length (journal_of_lines all.lines) =
    ap (λ (es : List Entry). length es) all.journal_is in
    let many = c.if-len-gt-MAX_JOURNAL_ENTRIES.true in
    let said = sym (said_at_once input) ∙ all.said in
    subst (λ (r : Result (List DayLine) ℕ). IsOkAnd r (λ lines. 1000000 < length (journal_of_lines lines))) (sym said)
    (omega (arith, n, l, many))

pub returns-clause-journal : goal.returns-clause-journal
returns-clause-journal g c input had =
    let all = whole g ((goal.at.returns-clause-journal g c).In_ok-journal) (with_soh input) had in
    let journal = c.in_ok-journal.journal.items in
    subst (λ (r : Result (List DayLine) ℕ). IsOkAnd r (λ lines. journal ≡ journal_of_lines lines))
    (sym (sym (said_at_once input) ∙ all.said)) all.journal_is

pub returns-clause-parts : goal.returns-clause-parts
returns-clause-parts g c input had =
    let all = whole g ((goal.at.returns-clause-parts g c).In_ok-journal) (with_soh input) had in
    let journal = c.in_ok-journal.journal.items in
    let part : (s : ℕ) → restricted s journal ≡ part_of s all.lines = λ s. ap (restricted s) all.journal_is
    ∙ c.day_journal.ensures.part s all.lines all.sessions in
    subst (λ (r : Result (List DayLine) ℕ). IsOkAnd r (λ lines. (s : ℕ) → restricted s journal ≡ part_of s lines))
    (sym (sym (said_at_once input) ∙ all.said)) part

pub returns-clause-lawful : goal.returns-clause-lawful
returns-clause-lawful g c =
    let all = whole g ((goal.at.returns-clause-lawful g c).In_ok-journal) c.requires.0 c.requires.1 in
    let n : c.len.result ≡ length c.in_ok-journal.journal.items = c.len.ensures ∙ c.in_ok-journal.journal.ok.0 in
    let l : length c.in_ok-journal.journal.items ≡ length (journal_of_lines all.lines) =
    ap (λ (es : List Entry). length es) all.journal_is in
    let few = c.if-len-gt-MAX_JOURNAL_ENTRIES.false in
    subst IsLawful (sym all.journal_is) (c.day_journal.ensures.lawful all.lines all.sessions (omega (arith, n, l, few)))
