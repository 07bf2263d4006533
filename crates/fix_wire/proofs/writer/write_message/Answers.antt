use Rattle.std.proofs.Common.{refl, ℕ, List, Option, Bor, ◌++◌, ◌+◌, ◌*◌, ◌≤◌, take, length, ap, subst, ◌∙◌, arith}
use Rattle.fix_wire.specs.Layout.{message_text}
use Rattle.fix_wire.specs.code.Layout.{frame_text}
use Rattle.fix_wire.specs.declared.parties.SpelledParties.{SpelledParties}
use Rattle.fix_wire.specs.declared.writer.Head.{Head}
use Rattle.fix_wire.specs.declared.writer.SpelledHead.{SpelledHead}
use Rattle.fix_wire.proofs.writing.PartsInRoom.{front_stays, written_back}
use Rattle.fix_wire.proofs.writing.WrittenMessage.{body_spelled, types_spelled, fits_together, read_back_is}
use Rattle.fix_wire.proofs.writer.write_message.Goals as goal

-- a head with these parties, wherever they are
abbrev lent : Head → Option (Bor (List ℕ)) → SpelledParties → SpelledHead
lent h time parties = record {
  kind = h.kind;
  number = h.number;
  orig_time = time;
  parties =
      record { ref_ptr = (0, 0); now = parties };
}

pub returns-clause-ok : goal.returns-clause-ok
returns-clause-ok g c =
    let start = c.as_slice-start.result.now in
    let head = c.args.head.now in
    let fields = c.args.fields.now in
    let before = front_stays _ _ _ _ (length start) (length start + c.room_for-most.result) c.resize.ensures.items
    (ap length c.as_slice-start.ensures.value) (omega arith) in
    let back = written_back c.put_message-end.new.room c.resize.new.self.items c.resize.new.self.len
    c.put_message-end.result (c.put_message-end.ensures.size ∙ c.as_mut_slice.ensures.len) in
    c.truncate.ensures.items ∙ back ∙ c.put_message-end.ensures.text
    ∙ ap (λ t. take (length start) c.as_mut_slice.result.now ++ frame_text t)
    (body_spelled (lent head c.time_of_duplicate.result c.new-parties.result) head fields
    (record {
      kind = refl;
      number = refl;
      duplicate = c.time_of_duplicate.ensures;
      parties =
          c.new-parties.ensures;
    }))
    ∙ ap (λ t. t ++ message_text head fields) (ap (take (length start)) c.as_mut_slice.ensures.value ∙ before
    ∙ c.in_ok-reserve.ensures.items)

pub returns-clause-short : goal.returns-clause-short
returns-clause-short g c =
    subst (λ t. length t ≤ 64 * length c.args.fields.now + 180)
    (body_spelled (lent c.args.head.now c.time_of_duplicate.result c.new-parties.result) c.args.head.now
    c.args.fields.now (record {
      kind = refl;
      number = refl;
      duplicate = c.time_of_duplicate.ensures;
      parties =
          c.new-parties.ensures;
    }))
    c.put_message-end.ensures.body

pub returns-clause-lawful : goal.returns-clause-lawful
returns-clause-lawful g c kind tags body =
    let types = types_spelled (lent c.args.head.now c.time_of_duplicate.result c.new-parties.result) c.args.head.now
    (record {
      kind = refl;
      number = refl;
      duplicate = c.time_of_duplicate.ensures;
      parties =
          c.new-parties.ensures;
    }) c.put_message-end.ensures.range in
    read_back_is c.args.head.now c.args.fields.now (
      (kind, types),
      fits_together c.args.fields.now tags c.put_message-end.ensures.values,
      body,
    )
