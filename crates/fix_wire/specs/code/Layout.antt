-- Words of the code alone, beside `Layout`: no promise of a whole day needs them to be read.
use Rattle.std.specs.Prelude.{ℕ, ◌%◌, Bool, if◌then◌else◌, List, [], ◌∷◌, ◌++◌, length, sum, decimal}
use Rattle.spread_rules_ids.specs.declared.bytes.TheConstants.{SOH}
use Rattle.fix_wire.specs.declared.writer.Field as given
use Rattle.fix_wire_frames.specs.Frames.{begin_text, checksum_field}

-- the fields of a duplicate alone
abbrev pub only_if : Bool → given.Field → List given.Field
only_if duplicate f = if duplicate then f ∷ [] else []

-- what CheckSum sums
abbrev pub summed_text : List ℕ → List ℕ
summed_text body = begin_text ++ (decimal (length body) ++ (SOH ∷ body))

-- a body within its frame
abbrev pub frame_text : List ℕ → List ℕ
frame_text body = summed_text body ++ checksum_field (sum (summed_text body) % 256)
