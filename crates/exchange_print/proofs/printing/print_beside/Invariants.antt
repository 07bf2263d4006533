use Rattle.std.specs.Prelude.{Some}
use Rattle.exchange_print.proofs.printing.print_beside.Given as goal

-- the end of the ring that is given on is this one
abbrev pub ghosts-give_behind : goal.ghosts-give_behind
ghosts-give_behind g a = record { end = Some a.ring.filled }
