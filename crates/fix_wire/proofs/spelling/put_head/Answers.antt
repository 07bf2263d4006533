use Rattle.std.proofs.Common.{take}
use Rattle.std.specs.Prelude.{is_some}
use Rattle.fix_wire.specs.Layout.{orig_time}
use Rattle.fix_wire.specs.Spelling.{kind_text, spelled, orig_text}
use Rattle.fix_wire.proofs.writing.PartsInRoom.{three_parts}
use Rattle.fix_wire.proofs.spelling.put_head.Goals as goal

pub returns-clause-text : goal.returns-clause-text
returns-clause-text c =
    let l = c.args.head.now in
    three_parts (take c.args.at c.args.room.now) (take c.put_kind-parties.result c.put_kind-parties.new.room)
    (take c.put_parties-rest.result c.put_parties-rest.new.room)
    (take c.put_orig_time.result c.put_orig_time.new.room)
    (kind_text l.kind l.number (is_some (orig_time l))) (spelled l.parties.now) (orig_text (orig_time l))
    c.put_kind-parties.ensures.text c.put_parties-rest.ensures.text c.put_orig_time.ensures.text
