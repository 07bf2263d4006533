-- The sessions' lists and their outbound states, session by session.
use Rattle.std.specs.Prelude.{ℕ, List, [], map, slice_index_or}
use Rattle.std.specs.declared.vec.Vec.{Vec}

-- the bytes of session s
abbrev pub bytes_of : {A : Type 0} → List (Vec ℕ A) → ℕ → List ℕ
bytes_of {A} lists s = slice_index_or (map (λ (v : Vec ℕ A). v.items) lists) s []
