use Rattle.std.proofs.Common.{◌≡◌, false}
use Rattle.std.specs.Io.KnownBytes.{Keeps}
use Rattle.spread_rules_ends.proofs.source.FromReaderSource.read.Given as goal

-- an interrupted read took nothing
abbrev pub invariant-loop : goal.invariant-loop
invariant-loop g l = (l.self.failed ≡ false) × Keeps (g.R.Read.remaining l.fn.self.reader)
    (g.R.Read.remaining l.self.reader)
