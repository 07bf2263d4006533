use Rattle.std.proofs.Common.{sym, ap, ◌∙◌}
use Rattle.std.specs.Option.{option_copied}
use Rattle.std.proofs.lemmas.Option.{same_Some, none-some}
use Rattle.fix_wire_frames.proofs.fields.KindFirst.{kind_first}
use Rattle.fix_wire_frames.proofs.table.first_value.Goals as goal

pub returns-in-Some : goal.returns-in-Some
returns-in-Some c = same_Some _ _ (sym (ap option_copied c.in-Some.is) ∙ c.value_of.ensures
    ∙ kind_first c.args.body.now c.requires.body)

pub returns-in-None : goal.returns-in-None
returns-in-None c = absurd (none-some _ (sym (ap option_copied c.in-None.is) ∙ c.value_of.ensures
    ∙ kind_first c.args.body.now c.requires.body))
