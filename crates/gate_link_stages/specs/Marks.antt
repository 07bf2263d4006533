-- Items of a ring whose last one may be an end mark, and no other.
use Rattle.std.specs.Prelude.{Bool, true, false, List, [], ◌∷◌, if◌then◌else◌}

-- whether this is the end, and nothing more is there
abbrev pub ended_here : {T : Type 0} → List T → Bool → Bool
ended_here [] ended = ended
ended_here (x ∷ xs) ended = false

abbrev pub opposite : Bool → Bool
opposite true = false
opposite false = true

-- items without a mark, and after them a mark just where it is ended
abbrev pub ends : {T : Type 0} → (T → Bool) → List T → Bool → Bool
ends is_mark [] ended = opposite ended
ends is_mark (x ∷ xs) ended = if is_mark x then ended_here xs ended else ends is_mark xs ended
