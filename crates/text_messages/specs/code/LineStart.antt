-- What the line of a message begins with.
-- Words of the code alone.
use Rattle.std.specs.Prelude.{ℕ, List, ◌++◌, codes, decimal}

-- `O S:`
abbrev pub start_of_line : ℕ → List ℕ
start_of_line session = codes "O " ++ decimal session ++ codes ":"
