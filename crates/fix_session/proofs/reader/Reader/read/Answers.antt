use Rattle.fix_session_judging.specs.Reading.{with_more}
use Rattle.fix_session.proofs.readers.BytesFed.{fed_put}
use Rattle.fix_session.proofs.reader.Reader.read.Goals as goal

pub loop-rest-preserved : goal.loop-rest-preserved
loop-rest-preserved g c = (
  fed_put c.args.number c.args.out.now.items (with_more c.args.self.now c.args.bytes.now) c.loop-rest.out.items
      c.loop-rest.self c.loop-rest.rest.now c.put-taken.result c.put-taken.new.self
      c.read_all.new.out.items c.read_all.new.self c.from-rest.result.now
      c.loop-rest.invariant.0 c.put-taken.ensures.appended c.in_ok-read_all.ensures.fed c.from-rest.ensures,
  c.in_ok-read_all.ensures.drained,
)
