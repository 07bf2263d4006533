-- What a message says: a message is a lawful frame, and its fields are those of its body.
use Rattle.std.specs.Prelude.{ℕ, ◌==◌, nat_le, List, [], Option, option_map, option_and_then, unwrap_or, find, slice_get}
use Rattle.std.specs.Bool.{then_some}
use Rattle.std.specs.Result.{result_ok}
use Rattle.fix_wire_frames.specs.declared.tags.TheConstants as tags
use Rattle.fix_wire_frames.specs.Fields.{TagValue, fields_of_body}
use Rattle.fix_wire_frames.specs.Frames.{header, body_at}
use Rattle.fix_wire_values.specs.Values.{number_in}

-- the fields of a message
unfoldable pub fields : List ℕ → List TagValue
fields m = unwrap_or (option_and_then (λ h. fields_of_body (body_at m h)) (header m)) []

-- MsgType: the value of its first field
abbrev pub kind : List ℕ → List ℕ
kind m = unwrap_or (option_map (λ f. f.value) (slice_get (fields m) 0)) []

-- the value of the first field with that tag
abbrev pub get : ℕ → List ℕ → Option (List ℕ)
get tag m = option_map (λ f. f.value) (find (λ f. f.tag == tag) (fields m))

-- MsgSeqNum, where it can be read and is at least 1
abbrev pub number : List ℕ → Option ℕ
number m = option_and_then (λ n. then_some (nat_le 1 n) n)
    (option_and_then (λ text. result_ok (number_in text)) (get tags.MSG_SEQ_NUM m))
