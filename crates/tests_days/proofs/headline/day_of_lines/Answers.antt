use Rattle.std.proofs.Common.{ℕ, List}
use Rattle.std.specs.Prelude.{All, IfOk, Result, Ok, Err}
use Rattle.spread_rules_rulebook.specs.Rulebook.{Rules}
use Rattle.spread_journal_lines.specs.JournalText.{HasByteIds, journal_text}
use Rattle.spread_journal.specs.JournalReading.{ReadsJournal}
use Rattle.spread_journal.proofs.texts.OneJournal.{in_latest, read_again}
use Rattle.text_day.specs.declared.day_text.Day.{Day}
use Rattle.spread_host.specs.Headline.{IsDayOf}
use Rattle.spread_host.proofs.AnswersSent.{answer_sent}
use Rattle.tests_days.proofs.headline.day_of_lines.Goals as goal

-- the journal of a day has a text that is read again as that journal
journal_again : {A E : Type 0} (rules : Rules) (stamp : List ℕ) (answer : Result (Day A) E)
    → IfOk answer (λ day. All (λ e. HasByteIds e.event) day.journal.items)
    → IfOk answer (λ day. IsDayOf rules stamp day.journal.items day.fills.items)
    → IfOk answer (λ day. ReadsJournal (journal_text day.journal.items) (Ok day.journal.items))
journal_again rules stamp (Ok day) bytes is =
    let entries = day.journal.items in
    read_again 2 entries (in_latest entries (record { lawful = is.lawful; bytes = bytes }))
journal_again rules stamp (Err fault) bytes is = tt

pub returns-clause-read_again : goal.returns-clause-read_again
returns-clause-read_again g c = journal_again c.args.rulebook.now c.args.stamp c.replay.result c.replay.ensures.byte_ids
    c.replay.ensures.day

pub returns-clause-outgoing : goal.returns-clause-outgoing
returns-clause-outgoing g c = (answer_sent c.args.rulebook.now c.args.stamp c.replay.result c.replay.ensures.outgoing
    c.replay.ensures.day).outgoing

pub returns-clause-whole_frames : goal.returns-clause-whole_frames
returns-clause-whole_frames g c = (answer_sent c.args.rulebook.now c.args.stamp c.replay.result
    c.replay.ensures.outgoing c.replay.ensures.day).whole_frames

pub returns-clause-lists : goal.returns-clause-lists
returns-clause-lists g c = (answer_sent c.args.rulebook.now c.args.stamp c.replay.result c.replay.ensures.outgoing
    c.replay.ensures.day).lists
