use Rattle.std.proofs.Common.{◌++◌, ◌∙◌, ap, List, ℕ, subst, arith}
use Rattle.std.proofs.lemmas.List.{length-map}
use Rattle.std.specs.Io.KnownBytes.{Appends}
use Rattle.spread_rules_ends.specs.Ends.{AppendsPrefix}
use Rattle.text_messages.specs.Messages.{texts_of}
use Rattle.text_messages.specs.code.Messages.{outgoing_lines_from}
use Rattle.text_fills.specs.code.Fills.{fill_lines}
use Rattle.text_fills.specs.Totals.{AreTotals}
use Rattle.spread_rules_rulebook.specs.declared.rulebook.Month.{Month}
use Rattle.spread_rules_rulebook.specs.Rulebook.{names_of}
use Rattle.text_day.specs.code.Months.{month_lines}
use Rattle.text_day.specs.code.LineParts.{totals_lines}
use Rattle.text_messages.specs.code.Blocks.{Writes}
use Rattle.text_messages.proofs.BlocksInTurn.{front_of_more, write_stops, none_on_err}
use Rattle.text_day.proofs.MonthLines.{lines_of_fills}
use Rattle.text_day.proofs.PartsInTurn.{then_writes, behind_first}
use Rattle.text_day.proofs.day_text.write_behind_journal.Goals as goal

pub returns-in_err-write_fill_lines : goal.returns-in_err-write_fill_lines
returns-in_err-write_fill_lines g c =
    let told = λ (k : _). g.K.TakesBlocks.written k in
    let rules = c.args.rulebook.now in
    let fills = fill_lines rules c.args.fills.items in
    let lines = outgoing_lines_from 0 (texts_of c.args.out.now) in
    let out = subst (λ (t : List _). AppendsPrefix (told c.args.sink.now) (told c.write_fill_lines.new.sink)
    (fill_lines rules t)) c.deref.ensures.value c.in_err-write_fill_lines.ensures.writes.front in
    record {
      writes = write_stops _ c.from_residual.result c.from_residual.ensures.1
          c.in_err-write_fill_lines.ensures.writes.failed
          (front_of_more (told c.args.sink.now) (told c.write_fill_lines.new.sink) (fills ++ lines)
          (month_lines rules c.args.fills.items)
          (front_of_more (told c.args.sink.now) (told c.write_fill_lines.new.sink) fills lines out));
      emptied = none_on_err _ _ c.from_residual.result c.from_residual.ensures.1;
    }

pub returns : goal.returns
returns g c =
    let told = λ (k : _). g.K.TakesBlocks.written k in
    let rules = c.args.rulebook.now in
    let items = c.args.fills.items in
    let fills = fill_lines rules items in
    let lines = outgoing_lines_from 0 (texts_of c.args.out.now) in
    let last = c.write_behind_fills in
    let first = subst (λ (t : List _). Appends (told c.args.sink.now) (told c.write_fill_lines.new.sink)
    (fill_lines rules t)) c.deref.ensures.value c.in_ok-write_fill_lines.ensures.writes.all in
    let sums = subst (λ (t : List _). AreTotals t c.write_fill_lines.new.totals) c.deref.ensures.value
    c.in_ok-write_fill_lines.ensures.totals in
    let few = length-map rules.months (λ (m : Month). m.name) in
    let same = lines_of_fills (names_of rules) 0 items c.write_fill_lines.new.totals sums
    (omega (arith, few, c.months.ensures.count, c.months.ensures.most)) in
    record {
      writes = subst (λ (t : List ℕ). Writes last.result (told c.args.sink.now) (told last.new.sink)
          (g.K.TakesBlocks.has_failed last.new.sink) t)
          (behind_first fills lines (totals_lines rules c.write_fill_lines.new.totals)
          ∙ ap (λ (t : List ℕ). fills ++ lines ++ t) same)
          (then_writes last.result (told c.args.sink.now) (told c.write_fill_lines.new.sink) (told last.new.sink)
          (g.K.TakesBlocks.has_failed last.new.sink)
          fills (lines ++ totals_lines rules c.write_fill_lines.new.totals) first last.ensures.writes);
      emptied = last.ensures.emptied;
    }
