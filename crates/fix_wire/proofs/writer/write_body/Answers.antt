use Rattle.std.proofs.Common.{◌++◌, ◌+◌, ◌*◌, ◌≤◌, length, ap, subst, ◌∙◌}
use Rattle.fix_wire.specs.code.Layout.{frame_text}
use Rattle.fix_wire.proofs.writing.WrittenMessage.{body_spelled, types_spelled, fits_together, read_back_is}
use Rattle.fix_wire.proofs.writer.write_body.Goals as goal

pub returns-clause-ok : goal.returns-clause-ok
returns-clause-ok g c = λ h same.
    c.in_ok-extend_from_slice.ensures.items
    ∙ ap (λ t. c.args.out.now.items ++ t) (c.put_message-end.ensures.text
    ∙ ap frame_text (body_spelled c.args.head.now h (g.B.Body.fields c.args.body.now) same))

pub returns-clause-bytes : goal.returns-clause-bytes
returns-clause-bytes g c =
    c.in_ok-extend_from_slice.ensures.items
    ∙ ap (λ t. c.args.out.now.items ++ t) c.put_message-end.ensures.text

pub returns-clause-short : goal.returns-clause-short
returns-clause-short g c = λ h same.
    subst (λ t. length t ≤ 64 * length (g.B.Body.fields c.args.body.now) + 180)
    (body_spelled c.args.head.now h (g.B.Body.fields c.args.body.now) same) c.put_message-end.ensures.body

pub returns-clause-lawful : goal.returns-clause-lawful
returns-clause-lawful g c = λ h same kind tags body.
    read_back_is h (g.B.Body.fields c.args.body.now) (
      (
        kind,
        types_spelled c.args.head.now h same c.put_message-end.ensures.range,
      ),
      fits_together (g.B.Body.fields c.args.body.now) tags c.put_message-end.ensures.values,
      body,
    )
