use Rattle.std.proofs.Common.{◌≡◌, ◌++◌, [], ◌∷◌, ℕ, List, None, length, length-append, append_assoc, refl, sym, ap, ◌∙◌, subst, arith}
use Rattle.intake_lines.specs.code.PiecesRead.{ReadsOn}
use Rattle.intake_lines.proofs.PiecesReadInTurn.{none_at, some_at, reads_none, reads_both, rest_kept, nothing_more}
use Rattle.intake_lines.proofs.day_reader.DayReader.take_text.Goals as goal

pub lines-init : goal.lines-init
lines-init g c = (([], refl, reads_none c.args.self.now), omega arith)

pub end_line-requires-clause-reading : goal.end_line-requires-clause-reading
end_line-requires-clause-reading g c =
    let had = c.requires.reading in
    (had.0 ++ c.lines.invariant.0.0, c.lines.invariant.0.2 had.0 had.1)

pub end_line-requires-clause-room : goal.end_line-requires-clause-room
end_line-requires-clause-room g c =
    omega (arith, c.lines.invariant.1, c.requires.room, ap length c.in-Some.ensures.found, length-append {A = ℕ})

pub returns-in_default-clause-reads : goal.returns-in_default-clause-reads
returns-in_default-clause-reads g c =
    let so_far = c.lines.invariant.0 in
    let left = c.lines.left.now in
    let reader = c.lines.self in
    let still : reader.bad ≡ None = none_at reader.bad c.is_none.result c.is_none.ensures c.lines-test.true in
    let kept = rest_kept left reader _ still c.in_default.ensures.none refl c.in_ok-extend_from_slice.ensures.items refl
    still in
    subst (λ (t : List ℕ). ReadsOn t c.args.self.now (record reader { rest = c.extend_from_slice.new.self }))
    (sym so_far.1) (reads_both so_far.0 left c.args.self.now reader _ so_far.2 kept)

pub returns-clause-reads : goal.returns-clause-reads
returns-clause-reads g c =
    let so_far = c.lines.invariant.0 in
    let left = c.lines.left.now in
    let reader = c.lines.self in
    let over = some_at reader.bad c.is_none.result c.is_none.ensures c.lines-test.false in
    subst (λ (t : List ℕ). ReadsOn t c.args.self.now reader) (sym so_far.1)
    (reads_both so_far.0 left c.args.self.now reader reader so_far.2 (nothing_more left reader over))

pub lines-preserved : goal.lines-preserved
lines-preserved g c =
    let so_far = c.lines.invariant.0 in
    let line = c.in-Some.line.now in
    let after = c.in-Some.after.now in (
      (
        so_far.0 ++ (line ++ 10 ∷ []),
        so_far.1
            ∙ ap (λ (t : List ℕ). so_far.0 ++ t) (c.in-Some.ensures.found ∙ sym (append_assoc line (10 ∷ []) after))
            ∙ sym (append_assoc so_far.0 (line ++ 10 ∷ []) after),
        reads_both so_far.0 (line ++ 10 ∷ []) c.args.self.now c.lines.self c.end_line.new.self so_far.2
            c.in_ok-end_line.ensures.reads,
      ),
      omega (
        arith,
        c.lines.invariant.1,
        c.in_ok-end_line.ensures.number,
        ap length c.in-Some.ensures.found,
        length-append {A = ℕ},
      ),
    )
