-- The blocks of a text on their way from the thread that makes it to the one that writes it.
use Rattle.std.specs.Prelude.{ℕ, ◌==◌, Bool, List, length}
use Rattle.std.specs.List.{flat_map}
use Rattle.std.specs.declared.vec.Vec.{Vec}

-- a block without bytes marks the end
abbrev pub is_mark : {A : Type 0} → Vec ℕ A → Bool
is_mark block = length block.items == 0

-- the text that these blocks have
abbrev pub text_in : {A : Type 0} → List (Vec ℕ A) → List ℕ
text_in blocks = flat_map (λ block. block.items) blocks
