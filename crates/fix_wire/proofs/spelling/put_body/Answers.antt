use Rattle.std.proofs.Common.{arith}
use Rattle.fix_wire.specs.Spelling.{spelled_body}
use Rattle.fix_wire_values.proofs.Appended.{step}
use Rattle.fix_wire.proofs.writing.PartsInRoom.{ends}
use Rattle.fix_wire.proofs.spelling.put_body.Goals as goal

pub returns-clause-text : goal.returns-clause-text
returns-clause-text g c = step _ _ _ _ _ c.put.ensures.text c.put_head-rest.ensures.text

pub returns-clause-end : goal.returns-clause-end
returns-clause-end g c =
    ends c.put.new.room c.args.room.now (spelled_body c.args.head.now (g.B.Body.fields c.args.body.now)) c.put.result
    c.args.at (returns-clause-text g c)
    (omega (
      arith,
      c.requires.within,
      c.put_head-rest.ensures.most,
      c.put.ensures.most,
      c.put_head-rest.ensures.size,
      c.put.ensures.size,
    ))
    (omega (arith, c.requires.within))
