-- A field of a message, by its tag and its value.
use Rattle.std.specs.Prelude.{ℕ, List, Option, option_map}
use Rattle.std.specs.Option.{option_to_list}
use Rattle.fix_wire.specs.declared.writer.Value.{Value}
use Rattle.fix_wire.specs.declared.writer.Field.{Field}
use Rattle.fix_wire.specs.Layout.{field}

-- the field with the value that this makes of what is there, or none
abbrev pub optional_field : {A : Type 0} → ℕ → Option A → (A → Value) → List Field
optional_field tag o value = option_to_list (option_map (λ a. field tag (value a)) o)
