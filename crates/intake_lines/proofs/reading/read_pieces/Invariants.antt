use Rattle.std.proofs.Common.{◌≡◌, ◌≤◌, ◌+◌, ◌-◌, ℕ, List, false, length}
use Rattle.std.specs.Io.KnownBytes.{Consumes}
use Rattle.spread_rules_ids.specs.declared.limits.TheConstants.{MAX_INPUT_BYTES}
use Rattle.fix_wire_frames.specs.Texts.{with_soh}
use Rattle.intake_lines.specs.code.PiecesRead.{HasRead}
use Rattle.intake_lines.specs.declared.reading.TheConstants.{CHUNK_BYTES}
use Rattle.intake_lines.proofs.reading.read_pieces.Given as goal

-- what was taken from the source was read
abbrev pub invariant-loop-reader : goal.invariant-loop-reader
invariant-loop-reader g l =
    (length l.piece ≡ CHUNK_BYTES) × (l.taken ≤ MAX_INPUT_BYTES) × (g.S.Source.has_failed l.source ≡ false)
    × (l.reader.number ≤ l.taken + 1)
    × ((input : List ℕ) × (length input ≡ l.taken) × Consumes (g.S.Source.left l.fn.source) (g.S.Source.left l.source)
    input × HasRead (with_soh input) l.reader)

abbrev pub decreases-loop-reader : goal.decreases-loop-reader
decreases-loop-reader g l = MAX_INPUT_BYTES - l.taken
