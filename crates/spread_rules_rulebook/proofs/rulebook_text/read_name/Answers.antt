use Rattle.std.proofs.Common.{◌≡◌, true, sym, ap, ◌∙◌, arith}
use Rattle.std.specs.List.{list_all}
use Rattle.std.proofs.lemmas.List.{take_all}
use Rattle.spread_rules_rulebook.specs.Rulebook.{is_name_byte}
use Rattle.spread_rules_rulebook.proofs.rulebook_texts.NamesHaveNoSpace.{name_none}
use Rattle.spread_rules_rulebook.proofs.rulebook_text.read_name.Goals as goal

pub returns-clause-none : goal.returns-clause-none
returns-clause-none c =
    let text = c.args.text.now in
    let letters : list_all is_name_byte text ≡ true = ap (list_all is_name_byte)
    (sym (take_all c.loop-byte.byte-index text (omega arith))) ∙ c.loop-byte.invariant in
    name_none text (omega arith) letters c.new.result c.new.ensures
