-- The parts of a text, written one after another.
use Rattle.std.proofs.Common.{◌≡◌, ℕ, Bool, List, ◌++◌, Option, Result, Ok, Err, sym, append_assoc}
use Rattle.std.proofs.KnownBytes.{Appends-trans}
use Rattle.std.specs.Io.KnownBytes.{Appends}
use Rattle.text_messages.specs.code.Blocks.{Writes}
use Rattle.text_messages.proofs.BlocksInTurn.{front_after}

-- a part that was written, and the next, whatever became of that one
pub then_writes : {T E : Type 0} (r : Result T E) (a b c : Option (List ℕ)) (has_failed : Bool) (xs ys : List ℕ)
    → Appends a b xs → Writes r b c has_failed ys → Writes r a c has_failed (xs ++ ys)
then_writes (Ok u) a b c has_failed xs ys first next =
    record { all = Appends-trans a b c xs ys first next.all; sound = next.sound; failed = tt; front = tt }
then_writes (Err e) a b c has_failed xs ys first next =
    record { all = tt; sound = tt; failed = next.failed; front = front_after a b c xs ys first next.front }

-- two parts behind a first one
pub behind_first : (a b c : List ℕ) → a ++ (b ++ c) ≡ a ++ b ++ c
behind_first a b c = sym (append_assoc a b c)
