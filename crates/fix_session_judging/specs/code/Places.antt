-- Words of the code alone, beside `Places`: no promise of a whole day needs them to be read.
use Rattle.std.specs.Prelude.{◌&&◌, ◌||◌, ◌==◌, if◌then◌else◌, List, [], ◌∷◌, Option, option_and_then, slice_get}
use Rattle.fix_session_judging.specs.declared.session.Logon.{Logon}
use Rattle.fix_session_judging.specs.View.{Numbered, logon_of}

-- the Logon of the session: that of the first message, where it is a lawful one
abbrev pub session_logon : List Numbered → Option Logon
session_logon ms = option_and_then (λ m. logon_of m.text m.number) (slice_get ms 0)
