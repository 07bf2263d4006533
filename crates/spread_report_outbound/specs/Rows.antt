-- A text of whole messages. The headline does not rest on this.
use Rattle.std.specs.Prelude.{◌≡◌, ℕ, List, ◌++◌}
use Rattle.std.specs.List.{AllByRecursion, concat}
use Rattle.fix_wire_frames.specs.Frames.{IsFrame, frames}

-- The text is these messages one after the other, each a whole frame, and it is read back as them, whatever follows.
pub record IsRow (messages : List (List ℕ)) (text : List ℕ) : Type 0 where
  pub joined : concat messages ≡ text
  pub whole : AllByRecursion IsFrame messages
  pub read : (more : List ℕ) → frames (text ++ more) ≡ messages ++ frames more
