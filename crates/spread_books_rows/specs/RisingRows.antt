-- Rows in order of place.
use Rattle.std.specs.Prelude.{ℕ, ◌<◌, ⊤, List, [], ◌∷◌, All}

-- each row stands before those of later places
abbrev pub RisesBy : {T : Type 0} → (T → ℕ) → List T → Type 0
RisesBy {T} place_of [] = ⊤
RisesBy {T} place_of (r ∷ rs) = All (λ t. place_of r < place_of t) rs × RisesBy place_of rs
