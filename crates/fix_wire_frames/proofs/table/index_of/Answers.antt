use Rattle.std.proofs.Common.{◌≤◌, get_or, ap, ◌∙◌, subst, sym}
use Rattle.fix_wire_frames.specs.declared.table.TheConstants.{TAG_INDEXES}
use Rattle.fix_wire_frames.proofs.texts.TagIndexes.{tag_index, index_within}
use Rattle.fix_wire_frames.proofs.table.index_of.Goals as goal

pub returns-clause-index : goal.returns-clause-index
returns-clause-index c = c.from.ensures ∙ ap (λ t. get_or TAG_INDEXES t 0) c.min.ensures ∙ tag_index c.args.tag

pub returns-clause-within : goal.returns-clause-within
returns-clause-within c =
    subst (λ i. i ≤ 23) (sym (c.from.ensures ∙ ap (λ t. get_or TAG_INDEXES t 0) c.min.ensures ∙ tag_index c.args.tag))
    (index_within c.args.tag)
