use Rattle.std.proofs.Common.{sym}
use Rattle.memchr.specs.Find.{is_byte}
use Rattle.fix_wire_values.proofs.FirstPlace.{place_found, place_not_found}
use Rattle.fix_wire_frames.proofs.frame.place_of.Goals as goal

pub returns-in-Some : goal.returns-in-Some
returns-in-Some c = sym (place_found (is_byte c.args.byte) c.args.text.now c.in-Some.at c.in-Some.ensures).0

pub returns-in-None : goal.returns-in-None
returns-in-None c = sym (place_not_found (is_byte c.args.byte) c.args.text.now c.in-None.ensures)
