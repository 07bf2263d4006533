-- Words of the code alone, beside `Fields`: no promise of a whole day needs them to be read.
use Rattle.std.specs.Prelude.{ℕ, ℤ, List}
use Rattle.fix_wire.specs.declared.writer.Value.TheVariants.{Text, Number, Price, Pair}
use Rattle.fix_wire.specs.declared.writer.Field.{Field}

-- a field with a text, a number, a price in hundredths, or two numbers
abbrev pub text_field : ℕ → List ℕ → Field
text_field tag bytes = record { tag = tag; value = Text bytes }

abbrev pub number_field : ℕ → ℕ → Field
number_field tag n = record { tag = tag; value = Number n }

abbrev pub price_field : ℕ → ℤ → Field
price_field tag z = record { tag = tag; value = Price z }

abbrev pub pair_field : ℕ → ℕ → ℕ → Field
pair_field tag a b = record { tag = tag; value = Pair a b }
