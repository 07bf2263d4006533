-- Words of the code alone, beside `Messages`: no promise of a whole day needs them to be read.
use Rattle.std.specs.Prelude.{ℕ, ◌==◌, List, [], Option, option_map, option_and_then, unwrap_or, slice_get}
use Rattle.std.specs.Result.{result_ok}
use Rattle.fix_wire_frames.specs.Fields.{TagValue}
use Rattle.fix_wire_values.specs.Values.{number_in}
use Rattle.fix_wire_frames.specs.Messages.{get}

-- the value of the first field with that tag as a number, where it can be read
abbrev pub given_number : ℕ → List ℕ → Option ℕ
given_number tag m = option_and_then (λ text. result_ok (number_in text)) (get tag m)

abbrev pub first_value : List TagValue → List ℕ
first_value fs = unwrap_or (option_map (λ f. f.value) (slice_get fs 0)) []
