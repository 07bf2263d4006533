-- Words of the code alone, beside `Texts`: no promise of a whole day needs them to be read.
use Rattle.std.specs.Prelude.{ℕ, Bool, true, false, ◌&&◌, ◌==◌, if◌then◌else◌, List, [], ◌∷◌, Option, Some, None}
use Rattle.spread_rules_ids.specs.declared.bytes.TheConstants.{EQUALS, SOH, VERTICAL_BAR}

-- SOH, which ends a field
abbrev pub is_soh : ℕ → Bool
is_soh b = b == SOH

-- `=`, which ends a tag
abbrev pub is_equals : ℕ → Bool
is_equals b = b == EQUALS

-- SOH is spelled `|`
abbrev pub soh_for_bar : ℕ → ℕ
soh_for_bar b = if b == VERTICAL_BAR then SOH else b

-- what follows a word that the text begins with
abbrev pub stripped : List ℕ → List ℕ → Option (List ℕ)
stripped [] text = Some text
stripped (p ∷ ps) [] = None
stripped (p ∷ ps) (b ∷ bs) = if p == b then stripped ps bs else None

-- the text is a proper prefix of the word
abbrev pub is_cut_short : List ℕ → List ℕ → Bool
is_cut_short [] text = false
is_cut_short (p ∷ ps) [] = true
is_cut_short (p ∷ ps) (b ∷ bs) = (p == b) && is_cut_short ps bs
