use Rattle.std.proofs.Common.{◌≡◌, true, take}
use Rattle.std.specs.List.{list_all}
use Rattle.spread_rules_rulebook.specs.Rulebook.{is_name_byte}
use Rattle.spread_rules_rulebook.proofs.rulebook_text.read_name.Given as goal

abbrev pub invariant-loop-byte : goal.invariant-loop-byte
invariant-loop-byte l = list_all is_name_byte (take l.byte-index l.text) ≡ true
