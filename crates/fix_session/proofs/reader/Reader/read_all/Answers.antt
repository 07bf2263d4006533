use Rattle.fix_session.proofs.readers.BytesFed.{fed_two}
use Rattle.fix_session.proofs.reader.Reader.read_all.Goals as goal

pub loop-preserved : goal.loop-preserved
loop-preserved g c =
    fed_two c.args.number c.args.out.now.items c.args.self.now c.loop.out.items c.loop.self c.read_first.new.out.items
    c.read_first.new.self c.loop.invariant c.in_ok-read_first.ensures.fed

pub returns-clause-fed : goal.returns-clause-fed
returns-clause-fed g c =
    fed_two c.args.number c.args.out.now.items c.args.self.now c.loop.out.items c.loop.self c.read_first.new.out.items
    c.read_first.new.self c.loop.invariant c.in_ok-read_first.ensures.fed
