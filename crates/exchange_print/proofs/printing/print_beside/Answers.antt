use Rattle.std.proofs.Common.{◌≡◌, ◌∙◌, ◌++◌, [], ℕ, List, ap, subst, sym}
use Rattle.spread_journal_lines.specs.JournalText.{journal_text}
use Rattle.text_messages.specs.code.Blocks.{Writes}
use Rattle.text_messages.proofs.BlocksInTurn.{on_err}
use Rattle.text_ring.specs.Ends.{text_taken}
use Rattle.exchange_print.specs.Printing.{behind_text}
use Rattle.exchange_print.proofs.TextInTurn.{both_written, none_taken}
use Rattle.exchange_print.proofs.printing.print_beside.Goals as goal

-- no thread was started: nothing came through the ring, and what stands behind the journal was written here
pub returns-in-Err-clause-writes : goal.returns-in-Err-clause-writes
returns-in-Err-clause-writes g c =
    let told = λ (k : _). g.K.Sink.written k in
    let failed = λ (k : _). g.K.Sink.has_failed k in
    let w = c.in-Err.written in
    let last = c.print_here.result in
    let journal = journal_text c.args.journal.now.items in
    let behind = behind_text c.args.rulebook.now c.args.behind.fills.items c.args.behind.out.items in
    let none : text_taken w.source ≡ [] = c.same_text-in-Err.ensures ∙ (c.in-Err.ensures.text ∙ c.in-Ok.ensures.sink.0)
    in
    subst (λ (t : List ℕ). Writes last.result (told c.args.sink) (told last.sink) (failed last.sink) t)
    (none_taken journal (text_taken w.source) behind none)
    (both_written w.result last.result (told c.args.sink) (told w.sink) (told last.sink) (failed w.sink)
    (failed last.sink) (journal ++ text_taken w.source) behind c.in-Err.ensures.here.writes c.print_here.ensures.writes
    (on_err w.result (λ kept. (kept.0, ap told kept.1)) c.print_here.ensures.kept))
