use Rattle.std.specs.Prelude.{Some}
use Rattle.tests_stages.proofs.blocks.both_ends_of_a_text.Given as goal

-- the end of the ring that is lent is this one
abbrev pub ghosts-give_by_name : goal.ghosts-give_by_name
ghosts-give_by_name g a = record { end = Some a.sink.filled }
