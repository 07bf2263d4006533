use Rattle.std.proofs.Common.{◌++◌, ◌∷◌, [], take, decimal, ap, ◌∙◌, append_assoc}
use Rattle.spread_rules_ids.specs.declared.bytes.TheConstants.{SOH}
use Rattle.fix_wire_frames.specs.Frames.{begin_text}
use Rattle.fix_wire.proofs.spelling.put_begin.Goals as goal

pub returns-clause-text : goal.returns-clause-text
returns-clause-text c =
    let before = take c.args.at c.args.room.now in
    let digits = decimal c.args.body_length in
    c.put_byte.ensures.text
    ∙ ap (λ t. t ++ SOH ∷ []) (c.put_number-end.ensures.text ∙ ap (λ t. t ++ digits) c.put-length.ensures.text)
    ∙ append_assoc (before ++ begin_text) digits (SOH ∷ [])
    ∙ append_assoc before begin_text (digits ++ SOH ∷ [])
