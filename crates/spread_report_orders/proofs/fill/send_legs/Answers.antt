use Rattle.std.specs.Int.{w64}
use Rattle.std.proofs.lemmas.Int.{to_z-of_z}
use Rattle.spread_report_outbound.proofs.MoreMessages.{sends_after}
use Rattle.spread_report_orders.proofs.fill.send_legs.Goals as goal

pub returns : goal.returns
returns g c =
    let one = rw (
      c.name_id-near_month.ensures.value,
      c.near_of.ensures.value,
      to_z-of_z w64 c.args.fill.now.near c.near_of.ensures.fits,
    ) at c.in_ok-send_part.ensures in
    let two = rw (
      c.name_id-far_month.ensures.value,
      c.other_side.ensures,
      c.far_of.ensures.value,
      to_z-of_z w64 c.args.fill.now.far c.far_of.ensures.fits,
      c.next.ensures,
    ) at c.send_part-2.ensures in
    sends_after c.args.outbox.now c.send_part.new.outbox c.send_part-2.new.outbox _ _ tt c.send_part-2.result one two
