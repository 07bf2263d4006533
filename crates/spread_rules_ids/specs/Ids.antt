-- Which texts are ids.
use Rattle.std.specs.Prelude.{ℕ, List, Bool, ◌&&◌, ◌==◌, not, nat_le, length, Option, Some, None, if◌then◌else◌}
use Rattle.std.specs.List.{list_all}
use Rattle.spread_rules_ids.specs.declared.bytes.TheConstants.{SOH}
use Rattle.spread_rules_ids.specs.declared.limits.TheConstants.{MAX_ID_LENGTH}

-- no SOH, byte 1, which ends a field
abbrev pub is_plain : List ℕ → Bool
is_plain text = list_all (λ b. not (b == SOH)) text

-- 1 to 32 bytes, none of them SOH
abbrev pub is_id : List ℕ → Bool
is_id text = nat_le 1 (length text) && nat_le (length text) MAX_ID_LENGTH && is_plain text

abbrev pub id_of : List ℕ → Option (List ℕ)
id_of text = if is_id text then Some text else None
