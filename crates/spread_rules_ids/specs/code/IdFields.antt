-- How an id is kept: its bytes with zeros behind them.
-- Words of the code alone.
use Rattle.std.specs.Prelude.{◌≡◌, ℕ, ◌-◌, ◌≤◌, List, ◌++◌, length, take, drop, replicate, true}
use Rattle.std.proofs.Common.{sym, ap, ◌∙◌, arith}
use Rattle.std.proofs.lemmas.List.{take-append-drop, length-take-le}
use Rattle.spread_rules_ids.specs.Ids.{is_plain}
use Rattle.spread_rules_ids.specs.declared.limits.TheConstants.{MAX_ID_LENGTH}
use Rattle.spread_rules_ids.specs.declared.id.Id.TheInside.{Inside}

abbrev pub text_of : Inside → List ℕ
text_of i = take i.len i.bytes

pub record IsKept (i : Inside) : Type 0 where
  pub some : 1 ≤ i.len
  pub most : i.len ≤ MAX_ID_LENGTH
  pub plain : is_plain (take i.len i.bytes) ≡ true
  pub size : length i.bytes ≡ MAX_ID_LENGTH
  pub zeros : drop i.len i.bytes ≡ replicate (MAX_ID_LENGTH - i.len) 0

abbrev pub inside : List ℕ → ℕ → Inside
inside bytes len = record { bytes = bytes; len = len }

-- a text of that length with zeros behind it
abbrev pub padded : List ℕ → ℕ → List ℕ
padded text len = text ++ replicate (MAX_ID_LENGTH - len) 0

abbrev pub kept_of : List ℕ → Inside
kept_of text = inside (padded text (length text)) (length text)

-- the fields come back from the text
pub kept_again : (i : Inside) → IsKept i → kept_of (text_of i) ≡ i
kept_again i k =
    let len = length-take-le i.len i.bytes (omega (arith, k.most, k.size)) in
    ap (λ n. inside (padded (take i.len i.bytes) n) n) len
    ∙ ap (λ t. inside (take i.len i.bytes ++ t) i.len) (sym k.zeros)
    ∙ ap (λ t. inside t i.len) (take-append-drop i.len i.bytes)
