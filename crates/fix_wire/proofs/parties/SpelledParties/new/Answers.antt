use Rattle.std.proofs.Common.{take, arith}
use Rattle.fix_wire.proofs.writing.HeadFields.{parties_written}
use Rattle.fix_wire.proofs.parties.SpelledParties.new.Goals as goal

pub returns : goal.returns
returns c = record {
  text =
      parties_written c.args.sender.now c.args.stamp.now c.args.target.now
      (take c.put-from.result c.put-from.new.room) (take c.put_id-time.result c.put_id-time.new.room)
      (take c.put-at.result c.put-at.new.room) (take c.put_id-to.result c.put_id-to.new.room)
      (take c.put-whom.result c.put-whom.new.room) (take c.put_id-end.result c.put_id-end.new.room)
      (take c.put_byte-len.result c.put_byte-len.new.room)
      c.put-from.ensures.text c.put_id-time.ensures.text c.put-at.ensures.text c.put_id-to.ensures.text
      c.put-whom.ensures.text c.put_id-end.ensures.text c.put_byte-len.ensures.text;
  short = omega (
    arith,
    c.put-from.ensures.end,
    c.put_id-time.ensures.most,
    c.put-at.ensures.end,
    c.put_id-to.ensures.most,
    c.put-whom.ensures.end,
    c.put_id-end.ensures.most,
    c.put_byte-len.ensures.end,
  );
  sender_plain = c.put_id-time.ensures.plain;
  target_plain = c.put_id-end.ensures.plain;
  stamp_plain = c.put_id-to.ensures.plain;
}
