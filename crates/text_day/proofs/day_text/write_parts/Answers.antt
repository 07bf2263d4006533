use Rattle.std.proofs.Common.{◌++◌, ◌∙◌, All, List, ℕ, ap, subst, arith}
use Rattle.std.proofs.lemmas.List.{length-map}
use Rattle.std.proofs.KnownBytes.{Appends-trans}
use Rattle.std.specs.Io.KnownBytes.{Appends}
use Rattle.spread_rules_ends.specs.Ends.{AppendsPrefix}
use Rattle.spread_rules.specs.declared.event.Entry.{Entry}
use Rattle.spread_journal_lines.specs.JournalText.{journal_text, HasByteIds}
use Rattle.text_messages.specs.Messages.{texts_of}
use Rattle.text_messages.specs.code.Messages.{outgoing_lines_from}
use Rattle.text_fills.specs.code.Fills.{fill_lines}
use Rattle.text_fills.specs.Totals.{AreTotals}
use Rattle.spread_rules_rulebook.specs.declared.rulebook.Month.{Month}
use Rattle.spread_rules_rulebook.specs.Rulebook.{names_of}
use Rattle.text_day.specs.code.Months.{month_lines}
use Rattle.text_day.specs.code.LineParts.{totals_lines}
use Rattle.text_messages.specs.code.Blocks.{Writes}
use Rattle.text_messages.proofs.BlocksInTurn.{front_after, front_of_more, on_ok_any, write_stops, none_on_err}
use Rattle.text_day.proofs.MonthLines.{lines_of_fills}
use Rattle.text_day.proofs.PartsInTurn.{then_writes, behind_first}
use Rattle.text_day.proofs.day_text.write_parts.Goals as goal

pub returns-in_err-write_journal_lines : goal.returns-in_err-write_journal_lines
returns-in_err-write_journal_lines g c =
    let told = λ (k : _). g.K.TakesBlocks.written k in
    let day = c.args.day.now in
    let before = journal_text day.journal.items in
    let fills = fill_lines c.args.rulebook.now day.fills.items in
    let lines = outgoing_lines_from 0 (texts_of day.out.items) in
    let months = month_lines c.args.rulebook.now day.fills.items in
    let out = subst (λ (t : List _). AppendsPrefix (told c.args.sink.now) (told c.write_journal_lines.new.sink)
    (journal_text t)) c.deref.ensures.value c.in_err-write_journal_lines.ensures.writes.front in
    record {
      writes = write_stops _ c.from_residual.result c.from_residual.ensures.1
          c.in_err-write_journal_lines.ensures.writes.failed
          (front_of_more (told c.args.sink.now) (told c.write_journal_lines.new.sink) (before ++ fills ++ lines) months
          (front_of_more (told c.args.sink.now) (told c.write_journal_lines.new.sink) (before ++ fills) lines
          (front_of_more (told c.args.sink.now) (told c.write_journal_lines.new.sink) before fills out)));
      bytes = none_on_err _ _ c.from_residual.result c.from_residual.ensures.1;
    }

pub returns-in_err-write_fill_lines : goal.returns-in_err-write_fill_lines
returns-in_err-write_fill_lines g c =
    let told = λ (k : _). g.K.TakesBlocks.written k in
    let day = c.args.day.now in
    let before = journal_text day.journal.items in
    let fills = fill_lines c.args.rulebook.now day.fills.items in
    let lines = outgoing_lines_from 0 (texts_of day.out.items) in
    let months = month_lines c.args.rulebook.now day.fills.items in
    let first = subst (λ (t : List _). Appends (told c.args.sink.now) (told c.write_journal_lines.new.sink)
    (journal_text t)) c.deref.ensures.value c.in_ok-write_journal_lines.ensures.writes.all in
    let out = subst (λ (t : List _). AppendsPrefix (told c.write_journal_lines.new.sink)
    (told c.write_fill_lines.new.sink) (fill_lines c.args.rulebook.now t)) c.deref-2.ensures.value
    c.in_err-write_fill_lines.ensures.writes.front in
    record {
      writes = write_stops _ c.from_residual-in_err-write_fill_lines.result
          c.from_residual-in_err-write_fill_lines.ensures.1 c.in_err-write_fill_lines.ensures.writes.failed
          (front_of_more (told c.args.sink.now) (told c.write_fill_lines.new.sink) (before ++ fills ++ lines) months
          (front_of_more (told c.args.sink.now) (told c.write_fill_lines.new.sink) (before ++ fills) lines
          (front_after (told c.args.sink.now) (told c.write_journal_lines.new.sink) (told c.write_fill_lines.new.sink)
          before fills first out)));
      bytes = none_on_err _ _ c.from_residual-in_err-write_fill_lines.result
          c.from_residual-in_err-write_fill_lines.ensures.1;
    }

pub returns : goal.returns
returns g c =
    let told = λ (k : _). g.K.TakesBlocks.written k in
    let rules = c.args.rulebook.now in
    let day = c.args.day.now in
    let before = journal_text day.journal.items in
    let fills = fill_lines rules day.fills.items in
    let lines = outgoing_lines_from 0 (texts_of day.out.items) in
    let last = c.write_behind_fills in
    let sums = totals_lines rules c.write_fill_lines.new.totals in
    let first = subst (λ (t : List _). Appends (told c.args.sink.now) (told c.write_journal_lines.new.sink)
    (journal_text t)) c.deref.ensures.value c.in_ok-write_journal_lines.ensures.writes.all in
    let second = subst (λ (t : List _). Appends (told c.write_journal_lines.new.sink) (told c.write_fill_lines.new.sink)
    (fill_lines rules t)) c.deref-2.ensures.value c.in_ok-write_fill_lines.ensures.writes.all in
    let both = Appends-trans (told c.args.sink.now) (told c.write_journal_lines.new.sink)
    (told c.write_fill_lines.new.sink) before fills first second in
    let summed = subst (λ (t : List _). AreTotals t c.write_fill_lines.new.totals) c.deref-2.ensures.value
    c.in_ok-write_fill_lines.ensures.totals in
    let few = length-map rules.months (λ (m : Month). m.name) in
    let same = lines_of_fills (names_of rules) 0 day.fills.items c.write_fill_lines.new.totals summed
    (omega (arith, few, c.months.ensures.count, c.months.ensures.most)) in
    record {
      writes = subst (λ (t : List ℕ). Writes last.result (told c.args.sink.now) (told last.new.sink)
          (g.K.TakesBlocks.has_failed last.new.sink) t)
          (behind_first (before ++ fills) lines sums ∙ ap (λ (t : List ℕ). before ++ fills ++ lines ++ t) same)
          (then_writes last.result (told c.args.sink.now) (told c.write_fill_lines.new.sink) (told last.new.sink)
          (g.K.TakesBlocks.has_failed last.new.sink)
          (before ++ fills) (lines ++ sums) both
          (subst (λ (o : List _). Writes last.result (told c.write_fill_lines.new.sink) (told last.new.sink)
          (g.K.TakesBlocks.has_failed last.new.sink) (outgoing_lines_from 0 (texts_of o) ++ sums))
          c.deref-3.ensures.value last.ensures.writes));
      bytes = on_ok_any last.result
          (subst (λ (es : List Entry). All (λ (e : Entry). HasByteIds e.event) es) c.deref.ensures.value
          c.in_ok-write_journal_lines.ensures.bytes);
    }
