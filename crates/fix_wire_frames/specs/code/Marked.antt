-- Where the SOHs of a text stand, as the bits of a number.
-- Words of the code alone.
use Rattle.std.specs.Prelude.{◌≡◌, ℕ, ◌+◌, ◌-◌, ◌*◌, ◌≤◌, if◌then◌else◌, List, [], ◌∷◌, ◌++◌, replicate, take, drop}
use Rattle.fix_wire_frames.specs.declared.marks.TheConstants.{BLOCK_BYTES}
use Rattle.fix_wire_frames.specs.declared.marks.Marks.{Marks}
use Rattle.fix_wire_frames.specs.code.Texts.{is_soh}

-- bit k is 1 where the byte with index k is SOH
abbrev pub marks_of : List ℕ → ℕ
marks_of [] = 0
marks_of (b ∷ bs) = (if is_soh b then 1 else 0) + 2 * marks_of bs

-- so many bytes that are no SOH
abbrev pub zeros : ℕ → List ℕ
zeros n = replicate n 0

-- The marks are those of the bytes from a place on, up to the end of their block; the bytes before them have none.
pub record IsMarked (text : List ℕ) (from : ℕ) (m : Marks) : Type 0 where
  pub order : from ≤ m.next
  pub few : m.next ≤ from + BLOCK_BYTES
  pub bits : m.bits
      ≡ marks_of (zeros (from + BLOCK_BYTES - m.next) ++ take (m.next - from) (drop from text))
