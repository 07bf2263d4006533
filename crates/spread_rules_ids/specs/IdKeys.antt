-- A session and an id as one key: six numbers.
-- Words of the code alone.
use Rattle.std.specs.Prelude.{ℕ, ◌-◌, ◌<◌, ◌≤◌, List, ◌++◌, length, take, drop, replicate, get_or}
use Rattle.std.specs.Int.{w64, from_be_bytes}
use Rattle.std.specs.declared.cmp.Ordering.{Ordering}
use Rattle.std.specs.Ordering.{nat_cmp, ordering_then}
use Rattle.spread_rules_ids.specs.declared.limits.TheConstants.{MAX_ID_LENGTH}
use Rattle.spread_rules_ids.specs.declared.id_key.IdKey.{IdKey}

-- eight bytes from there on, of the id with zeros behind it up to 32 bytes
unfoldable pub word_of : List ℕ → ℕ → ℕ
word_of id at = from_be_bytes w64 (take 8 (drop at (id ++ replicate (MAX_ID_LENGTH - length id) 0)))

abbrev pub key_of : ℕ → List ℕ → IdKey
key_of session id = record {
  session = session;
  first = word_of id 0;
  second = word_of id 8;
  third = word_of id 16;
  fourth = word_of id 24;
  size = length id;
}

-- what the bytes of every id are
pub record IsIdBytes (id : List ℕ) : Type 0 where
  pub most : length id ≤ MAX_ID_LENGTH
  pub small : (i : ℕ) → get_or id i 0 < 256

-- the order of keys: number by number
abbrev pub id_key_cmp : IdKey → IdKey → Ordering
id_key_cmp a b =
    ordering_then (nat_cmp a.session b.session) (ordering_then (nat_cmp a.first b.first)
    (ordering_then (nat_cmp a.second b.second) (ordering_then (nat_cmp a.third b.third)
    (ordering_then (nat_cmp a.fourth b.fourth) (nat_cmp a.size b.size)))))
