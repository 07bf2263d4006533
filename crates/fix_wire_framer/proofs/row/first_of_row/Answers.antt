use Rattle.std.proofs.Common.{◌≡◌, ◌∷◌, [], List, ℕ, drop, Option, IfNone, sym, ap, ◌∙◌, subst}
use Rattle.fix_wire_frames.specs.declared.frame.FrameHeader.{FrameHeader}
use Rattle.fix_wire_frames.specs.Frames.{frames, frame_length, IsFrameRow}
use Rattle.fix_wire_framer.proofs.framing.RowOfFrames.{Reads, reads, row_opens}
use Rattle.fix_wire_framer.proofs.row.first_of_row.Goals as goal

pub header_of_begun-requires : goal.header_of_begun-requires
header_of_begun-requires c = row_opens c.args.row.now c.requires c.if-is_empty.ensures

pub returns-in_err-header-clause-none : goal.returns-in_err-header-clause-none
returns-in_err-header-clause-none c =
    let row = c.args.row.now in
    let none = subst (λ (o : Option FrameHeader). Reads row o) c.in_err-header.was
    (reads row c.requires c.if-is_empty.ensures c.header_of_begun.result c.header_of_begun.ensures) in
    subst (λ o. IfNone o (frames row ≡ [])) (sym c.from_residual.ensures) none

pub split_at-requires : goal.split_at-requires
split_at-requires c =
    let row = c.args.row.now in
    (subst (λ (o : Option FrameHeader). Reads row o) c.in_ok-header.was
    (reads row c.requires c.if-is_empty.ensures c.header_of_begun.result c.header_of_begun.ensures)).1

pub returns-clause-found : goal.returns-clause-found
returns-clause-found c =
    let row = c.args.row.now in
    let read = subst (λ (o : Option FrameHeader). Reads row o) c.in_ok-header.was
    (reads row c.requires c.if-is_empty.ensures c.header_of_begun.result c.header_of_begun.ensures) in
    read.2
    ∙ (ap (λ (t : List ℕ). t ∷ frames (drop (frame_length c.in_ok-header.header) row)) (sym c.split_at.ensures.front)
    ∙ ap (λ (t : List ℕ). c.split_at.result.0.now ∷ frames t) (sym c.split_at.ensures.back))

pub returns-clause-row : goal.returns-clause-row
returns-clause-row c =
    let row = c.args.row.now in
    let read = subst (λ (o : Option FrameHeader). Reads row o) c.in_ok-header.was
    (reads row c.requires c.if-is_empty.ensures c.header_of_begun.result c.header_of_begun.ensures) in
    subst IsFrameRow (sym c.split_at.ensures.back) read.3
