-- A text with zeros behind it is kept as it has to be.
use Rattle.std.proofs.Common.{◌≡◌, ℕ, ◌&&◌, nat_le, ◌-◌, ◌<◌, ◌≤◌, true, not, eqb, List, length, replicate, refl, ap, ◌∙◌, arith, length-append}
use Rattle.std.proofs.lemmas.Bool.{and_parts}
use Rattle.std.specs.List.{list_all}
use Rattle.std.proofs.lemmas.List.{take_at, drop_at, length-replicate}
use Rattle.std.proofs.lemmas.Bool.Decides.{nat_tests}
use Rattle.spread_rules_ids.specs.Ids.{is_id}
use Rattle.spread_rules_ids.specs.code.IdFields.{IsKept, kept_of}

pub kept_new : (text : List ℕ) → 0 < length text → length text ≤ 32 → list_all (λ b. not (eqb b 1)) text ≡ true
    → IsKept (kept_of text)
kept_new text some most plain = record {
  some = some;
  most = most;
  plain = ap (λ t. list_all (λ b. not (eqb b 1)) t) (take_at text (replicate (32 - length text) 0) (length text) refl)
      ∙ plain;
  size = omega (
    arith,
    length-append text (replicate (32 - length text) 0),
    length-replicate {A = ℕ} (32 - length text) 0,
  );
  zeros = drop_at text (replicate (32 - length text) 0) (length text) refl;
}

-- what is said of a text that is an id
pub id_parts : (text : List ℕ) → is_id text ≡ true → (0 < length text) × (length text ≤ 32)
    × (list_all (λ b. not (eqb b 1)) text ≡ true)
id_parts text is =
    let all = and_parts (nat_le 1 (length text) && nat_le (length text) 32) _ is in
    let sizes = and_parts (nat_le 1 (length text)) _ all.0 in
    (grind (arith, nat_tests, sizes.0), grind (arith, nat_tests, sizes.1), all.1)
