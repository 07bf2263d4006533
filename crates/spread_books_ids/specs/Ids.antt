-- The first row of a session and an id.
use Rattle.std.specs.Prelude.{suc, Bool, cond, List, [], ◌∷◌, ℕ, Option, Some, None, option_map}
use Rattle.std.specs.Ordering.{is_eq}
use Rattle.spread_rules_ids.specs.declared.id_key.IdKey.{IdKey}
use Rattle.spread_rules_ids.specs.IdKeys.{id_key_cmp}

-- whether two keys are of one session and id
abbrev pub is_key : IdKey → IdKey → Bool
is_key a b = is_eq (id_key_cmp a b)

-- the first row of that key
abbrev pub first_row : IdKey → List IdKey → Option ℕ
first_row key [] = None
first_row key (k ∷ ks) = cond (is_key key k) (Some 0) (option_map suc (first_row key ks))
