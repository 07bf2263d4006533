-- A rulebook: the tick, the months in order of expiry, and which pairs of them take part in implied trading. What it
-- lists, and what names it.
use Rattle.std.specs.Prelude.{◌≡◌, ℕ, ◌<◌, ◌≤◌, ◌+◌, ◌*◌, ℤ, pos, ◌≤ℤ◌, int_rem, Bool, true, unwrap_or, flat_map, ◌&&◌, ◌||◌, nat_le, List, [], ◌∷◌, ◌++◌, map, length, get_or, All, Option, None}
use Rattle.std.specs.List.{find, list_all, range_with_len}
use Rattle.std.specs.Str.{bytes_eq}
use Rattle.spread_rules_ids.specs.declared.bytes.TheConstants.{HYPHEN_MINUS}
use Rattle.spread_rules_ids.specs.declared.limits.TheConstants.{MAX_MONTHS, MAX_NAME_LENGTH, MAX_TICK}
use Rattle.spread_rules_rulebook.specs.declared.instrument.Instrument.{Instrument}
use Rattle.spread_rules_rulebook.specs.declared.instrument.Instrument.TheVariants.{Outright, Spread}
use Rattle.spread_rules_rulebook.specs.Prices.{IsOrderPrice}
use Rattle.spread_rules_rulebook.specs.declared.rulebook.Month.{Month}

pub record Rules : Type 0 where
  pub tick : ℤ
  pub months : List Month
  pub switches : List (Option Bool)

abbrev pub month_count : Rules → ℕ
month_count rules = length rules.months

abbrev pub names_of : Rules → List (List ℕ)
names_of rules = map (λ m. m.name) rules.months

abbrev pub references_of : Rules → List ℤ
references_of rules = map (λ m. m.reference) rules.months

-- whether the pair of these months takes part in implied trading: one that was not switched does; the switches are in a
-- row, those of each near month in order of the far one
abbrev pub implied : Rules → ℕ → ℕ → Bool
implied rules near far = unwrap_or (get_or rules.switches (near * MAX_MONTHS + far) None) true

-- ---- what a rulebook may say

-- a letter A to Z or a to z, or a digit, in ASCII
abbrev pub is_name_byte : ℕ → Bool
is_name_byte b =
    (nat_le 65 b && nat_le b 90) || (nat_le 97 b && nat_le b 122) || (nat_le 48 b && nat_le b 57)

-- the name of a month: letters and digits
pub record IsName (name : List ℕ) : Type 0 where
  pub some : 1 ≤ length name
  pub most : length name ≤ MAX_NAME_LENGTH
  pub letters : list_all is_name_byte name ≡ true

-- a month's reference price: within the limits of prices, and a multiple of the tick
pub record IsReference (tick z : ℤ) : Type 0 where
  pub price : IsOrderPrice z
  pub multiple : int_rem z tick ≡ pos 0

pub record IsMonth (tick : ℤ) (m : Month) : Type 0 where
  pub name : IsName m.name
  pub reference : IsReference tick m.reference

-- at least one hundredth
pub record IsTick (tick : ℤ) : Type 0 where
  pub low : pos 1 ≤ℤ tick
  pub high : tick ≤ℤ MAX_TICK

-- a tick, at least one month and no more than a rulebook may have, and no name twice
pub record IsRules (rules : Rules) : Type 0 where
  pub tick : IsTick rules.tick
  pub some : 1 ≤ month_count rules
  pub most : month_count rules ≤ MAX_MONTHS
  pub months : All (IsMonth rules.tick) rules.months
  pub names :
      (i j : ℕ) → i < month_count rules → j < month_count rules
      → get_or (names_of rules) i [] ≡ get_or (names_of rules) j [] → i ≡ j

-- ---- instruments

-- every month, and every pair of months, the near one first
abbrev pub instruments_of : Rules → List Instrument
instruments_of rules =
    let months = range_with_len 0 (length rules.months) in
    map Outright months
    ++ flat_map (λ far. map (λ near. Spread near far) (range_with_len 0 far)) months

-- the rulebook has this instrument: its months exist, a spread's near one first
abbrev pub IsListed : Rules → Instrument → Type 0
IsListed rules (Outright m) = m < length rules.months
IsListed rules (Spread i j) = (i < j) × (j < length rules.months)

-- ---- symbols

-- a month's name; of a spread both names with `-` between, the near one first
abbrev pub symbol_of : Rules → Instrument → List ℕ
symbol_of rules (Outright m) = get_or (names_of rules) m []
symbol_of rules (Spread i j) =
    get_or (names_of rules) i [] ++ HYPHEN_MINUS ∷ get_or (names_of rules) j []

-- the instrument with that symbol
abbrev pub find_symbol : Rules → List ℕ → Option Instrument
find_symbol rules symbol = find (λ i. bytes_eq (symbol_of rules i) symbol) (instruments_of rules)
