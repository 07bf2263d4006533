use Rattle.std.proofs.Common.{ℕ, List, Option, IfSome}
use Rattle.std.proofs.lemmas.Option.{IfSome_then}
use Rattle.std.proofs.lemmas.Result.{IfOk-weaker, IfErr-weaker}
use Rattle.fix_wire_frames.specs.Texts.{with_soh}
use Rattle.intake_lines.specs.Reading.{IsJournalOf}
use Rattle.intake_lines.specs.code.Reading.{HasParts, IsLinesFault}
use Rattle.intake_lines.specs.code.PiecesRead.{HasRead}
use Rattle.intake_lines.specs.declared.day_reader.DayReader.{DayReader}
use Rattle.intake_lines.proofs.reading.read_day_lines.Goals as goal

-- what a reader answers of each input that it may have read is so of what its source had left, where that is known
of_source : {A X : Type 0} (reader : DayReader A) (left : Option (List ℕ))
    → IfSome left (λ input. HasRead (with_soh input) reader) → (P : List ℕ → X → Type 0) (x : X)
    → ((input : List ℕ) → HasRead (with_soh input) reader → P input x) → IfSome left (λ input. P input x)
of_source reader left whole P x of = IfSome_then left whole of

pub returns-clause-journal : goal.returns-clause-journal
returns-clause-journal g c =
    IfOk-weaker c.into_journal.result _ _
    (λ journal. of_source c.in_ok-reader.reader (g.S.Source.left c.args.source.now) c.in_ok-reader.ensures.whole
    (λ input es. IsJournalOf input es.items) journal)
    c.into_journal.ensures.journal

pub returns-clause-parts : goal.returns-clause-parts
returns-clause-parts g c =
    IfOk-weaker c.into_journal.result _ _
    (λ journal. of_source c.in_ok-reader.reader (g.S.Source.left c.args.source.now) c.in_ok-reader.ensures.whole
    (λ input es. HasParts input es.items) journal)
    c.into_journal.ensures.parts

pub returns-clause-fault : goal.returns-clause-fault
returns-clause-fault g c =
    IfErr-weaker c.into_journal.result _ _
    (λ fault. of_source c.in_ok-reader.reader (g.S.Source.left c.args.source.now) c.in_ok-reader.ensures.whole
    IsLinesFault fault)
    c.into_journal.ensures.fault
