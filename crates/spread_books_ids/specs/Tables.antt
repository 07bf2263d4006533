-- Which rows a table of ids is of: lines of numbers, and an ordered table for what finds its line full.
use Rattle.std.specs.Prelude.{◌≡◌, ℕ, ◌+◌, ◌-◌, ◌*◌, ◌/◌, ◌%◌, ◌^◌, ◌<◌, ◌≤◌, ◌==◌, ◌≢◌, Bool, false, ◌&&◌, cond, List, [], ◌∷◌, length, get_or, Option, Some, None, All, slice_get, max, bit_and, bit_xor}
use Rattle.std.specs.Int.{w64, trailing_zeros}
use Rattle.std.specs.Option.{option_or}
use Rattle.std.specs.BTreeMap.{get}
use Rattle.spread_rules_ids.specs.declared.id_key.IdKey.{IdKey}
use Rattle.spread_rules_ids.specs.IdKeys.{id_key_cmp}
use Rattle.spread_books_ids.specs.declared.id_table.Line.{Line}
use Rattle.spread_books_ids.specs.declared.id_table.IdTable.{IdTable}
use Rattle.spread_books_ids.specs.declared.id_table.TheConstants.{ROWS}
use Rattle.spread_books_ids.specs.Ids.{is_key, first_row}

-- ---- a number of a line: a tag of twelve bits and a row of twenty

-- a number in 64 bits
abbrev pub wrap : ℕ → ℕ
wrap n = n % 2 ^ 64

-- a sum with one word more
abbrev pub joined : ℕ → ℕ → ℕ
joined sum word = wrap (wrap (sum * 11400714819323198485) + wrap (word * 12605985483714917081))

abbrev pub spread_bits : ℕ → ℕ
spread_bits sum = wrap (bit_xor sum (sum / 2 ^ 32) * 11400714819323198485)

-- the last word of an id that is not 0
abbrev pub last_word : IdKey → ℕ
last_word k =
    cond (k.fourth == 0) (cond (k.third == 0) (cond (k.second == 0) k.first k.second) k.third) k.fourth

-- the session and the words before that, in one sum
abbrev pub words_before : IdKey → ℕ
words_before k =
    let one = joined k.session k.first in
    let two = joined one k.second in
    cond (k.fourth == 0) (cond (k.third == 0) (cond (k.second == 0) k.session one) two) (joined two k.third)

-- a word without the bytes behind the last one that is not 0
abbrev pub from_last_byte : ℕ → ℕ
from_last_byte word = word / 2 ^ (trailing_zeros w64 word / 8 * 8 % 64)

-- the last word of an id up to the last byte that is not 0
unfoldable pub last_of : IdKey → ℕ
last_of k = from_last_byte (last_word k)

-- the bits of a key, spread, without the two low ones of that byte
unfoldable pub hash_of : IdKey → ℕ
hash_of k = spread_bits (joined (words_before k) (from_last_byte (last_word k) / 4))

-- the line of a key among so many
abbrev pub line_of : ℕ → IdKey → ℕ
line_of count k = bit_and (hash_of k / 2 ^ 32) (count - 1)

-- twelve bits of a key, never 0
abbrev pub tag_of : IdKey → ℕ
tag_of k = max ((hash_of k / 2 ^ 16 + last_of k % 4) % 4096) 1

-- whether the row is of that key
abbrev pub is_row_of : Option IdKey → IdKey → Bool
is_row_of None key = false
is_row_of (Some k) key = is_key key k

-- whether a number names a row of that key
abbrev pub names_key : List IdKey → IdKey → ℕ → Bool
names_key ks key e = e / ROWS == tag_of key && is_row_of (slice_get ks (e % ROWS)) key

-- the first row of that key among those that a line names
abbrev pub named_row : List IdKey → IdKey → List ℕ → Option ℕ
named_row ks key [] = None
named_row ks key (e ∷ es) = cond (names_key ks key e) (Some (e % ROWS)) (named_row ks key es)

-- behind the first number that is 0 all are 0
abbrev pub HasEnd : List ℕ → Type 0
HasEnd [] = Unit {0}
HasEnd (e ∷ es) = (e ≡ 0 → All (λ d. d ≡ 0) es) × HasEnd es

abbrev pub numbers_of : Option Line → List ℕ
numbers_of None = []
numbers_of (Some l) = l.numbers

-- the numbers of the line of a key
abbrev pub line_for : List Line → IdKey → List ℕ
line_for lines k = numbers_of (slice_get lines (line_of (length lines) k))

-- a number that is none or names one of so many rows
abbrev pub NamesBelow : ℕ → ℕ → Type 0
NamesBelow n e = e ≢ 0 → e % ROWS < n

-- the lines, and the table of those that found their line full, tell of each key its first row
pub record AreOfRows (lines : List Line) (rest : IdKey → Option ℕ) (ks : List IdKey) : Type 0 where
  pub named : All (λ l. All (NamesBelow (length ks)) l.numbers) lines
  pub ended : All (λ l. HasEnd l.numbers) lines
  pub full :
      (k : IdKey) (i : ℕ) → get_or (line_for lines k) i 1 ≡ 0 → length ks ≤ ROWS → rest k ≡ None
  pub finds :
      (k : IdKey) → option_or (named_row ks k (line_for lines k)) (rest k) ≡ first_row k ks

-- the table tells of each key its first row among these
abbrev pub IsTableOf : {A : Type 0} → IdTable A → List IdKey → Type 0
IsTableOf t ks = AreOfRows t.lines.items (get id_key_cmp t.behind) ks
