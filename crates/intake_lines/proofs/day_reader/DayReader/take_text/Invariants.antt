use Rattle.std.proofs.Common.{◌≡◌, ◌+◌, ◌≤◌, ◌++◌, ℕ, List, length}
use Rattle.intake_lines.specs.code.PiecesRead.{ReadsOn}
use Rattle.intake_lines.proofs.day_reader.DayReader.take_text.Given as goal

-- what was taken and what is left are the whole text
abbrev pub invariant-lines : goal.invariant-lines
invariant-lines g l =
    ((front : List ℕ) × (l.text ≡ front ++ l.left) × ReadsOn front l.initial.self l.self)
    × (l.self.number + length l.left ≤ l.initial.self.number + length l.text)

abbrev pub decreases-lines : goal.decreases-lines
decreases-lines g l = length l.left
