use Rattle.std.proofs.Common.{◌≡◌, Bool, true, List, ℕ, sym, ap, subst, ◌∙◌}
use Rattle.spread_rules.specs.declared.event.Entry.{Entry}
use Rattle.spread_rules_ends.specs.Ends.{AppendsPrefix}
use Rattle.spread_journal_lines.specs.JournalText.{journal_text}
use Rattle.text_day.specs.code.DayText.{day_text}
use Rattle.text_messages.specs.Messages.{texts_of}
use Rattle.text_messages.proofs.BlocksInTurn.{of_err}
use Rattle.text_day.proofs.day_text.write_day.Goals as goal
use Rattle.text_day.proofs.day_text.write_day.Goals.{then-journal_only, else-journal_only}

pub returns-clause-write : goal.returns-clause-write
returns-clause-write g c e =
    let told = λ (k : _). g.K.TakesBlocks.written k in
    let day = c.args.day.now in
    let rules = c.args.rulebook.now in
    let fills = day.fills.items in
    let texts = texts_of day.out.items in
    let text = λ (b : Bool). day_text b rules day.journal.items fills texts in
    elim c.if-journal_only.branch [
      | then-journal_only w ↦
          let failed = sym w.written-is ∙ c.in-Err.is in
          let same = ap (λ (es : List Entry). journal_text es) w.deref.ensures.value
          ∙ sym (ap text w.if-journal_only.true) in
          subst (λ (k : _). (g.K.TakesBlocks.has_failed k ≡ true)
          × AppendsPrefix (told c.args.sink.now) (told k) (text c.args.journal_only)) (sym w.sink-is) (
            of_err _ _ failed w.write_journal_lines-written.ensures.writes.failed,
            subst (λ (t : List ℕ). AppendsPrefix (told c.args.sink.now) (told w.write_journal_lines-written.new.sink)
                t) same (of_err _ _ failed w.write_journal_lines-written.ensures.writes.front),
          )
      | else-journal_only w ↦
          let failed = sym w.written-is ∙ c.in-Err.is in
          let all = sym (ap text w.if-journal_only.false) in
          subst (λ (k : _). (g.K.TakesBlocks.has_failed k ≡ true)
          × AppendsPrefix (told c.args.sink.now) (told k) (text c.args.journal_only)) (sym w.sink-is) (
            of_err _ _ failed w.write_parts-written.ensures.writes.failed,
            subst (λ (t : List ℕ). AppendsPrefix (told c.args.sink.now) (told w.write_parts-written.new.sink) t) all
                (of_err _ _ failed w.write_parts-written.ensures.writes.front),
          )
    ]
