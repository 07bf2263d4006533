-- Pieces of bytes, the items of a session's ring to its writer.
use Rattle.std.specs.Prelude.{ℕ, Bool, if◌then◌else◌, List, [], take, nat_lt}
use Rattle.std.specs.List.{flat_map}
use Rattle.gate_link_stages.specs.declared.post.TheConstants.{POSTED_BYTES}
use Rattle.gate_link_stages.specs.declared.post.PostedBytes.{PostedBytes}

-- the end mark has a length that no piece has
abbrev pub is_mark : PostedBytes → Bool
is_mark p = nat_lt POSTED_BYTES p.length

-- the bytes of a piece; the end mark has none
abbrev pub bytes_of_piece : PostedBytes → List ℕ
bytes_of_piece p = if is_mark p then [] else take p.length p.bytes

-- the bytes of these pieces
abbrev pub bytes_in : List PostedBytes → List ℕ
bytes_in pieces = flat_map bytes_of_piece pieces
