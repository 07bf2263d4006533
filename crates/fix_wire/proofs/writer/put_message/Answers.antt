use Rattle.std.proofs.Common.{sym, arith}
use Rattle.std.proofs.lemmas.List.{length-take-le}
use Rattle.fix_wire.specs.Spelling.{spelled_body}
use Rattle.fix_wire.proofs.writing.WrittenMessage.{frame_closed}
use Rattle.fix_wire.proofs.writer.put_message.Goals as goal

pub returns-clause-text : goal.returns-clause-text
returns-clause-text g c =
    frame_closed (spelled_body c.args.head.now (g.B.Body.fields c.args.body.now)) c.args.start _ _ _
    (sym (length-take-le c.args.start c.args.room.now (omega (arith, c.requires.within))))
    c.put_summed-end.ensures.text c.put_checksum.ensures.text
