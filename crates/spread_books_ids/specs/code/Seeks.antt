-- What a look at a line finds, and a number put where it ends.
-- Words of the code alone.
use Rattle.std.specs.Prelude.{◌≡◌, ℕ, zero, suc, ◌<◌, ◌≢◌, List, [], ◌∷◌, set, Option, Some, None, All, slice_get}
use Rattle.spread_books_ids.specs.declared.id_table.Line.{Line}
use Rattle.spread_books_ids.specs.declared.id_table.Seek.{Seek}
use Rattle.spread_books_ids.specs.declared.id_table.Seek.TheVariants.{Found, Open, Full}
use Rattle.spread_books_ids.specs.declared.id_table.TheConstants.{WIDTH}
use Rattle.spread_books_ids.specs.Tables.{numbers_of}

-- the first number that is 0 is there
abbrev pub EndsAt : List ℕ → ℕ → Type 0
EndsAt [] at = ⊥
EndsAt (e ∷ es) zero = e ≡ 0
EndsAt (e ∷ es) (suc at) = (e ≢ 0) × EndsAt es at

-- what was found in a line, where the first row that it names is known
abbrev pub IsSeek : Option ℕ → List ℕ → Seek → Type 0
IsSeek named es (Found row) = named ≡ Some row
IsSeek named es (Open at) = (named ≡ None) × EndsAt es at × (at < WIDTH)
IsSeek named es Full = (named ≡ None) × All (λ e. e ≢ 0) es

-- the lines with one number put there
abbrev pub with_number : List Line → ℕ → ℕ → ℕ → List Line
with_number lines line at number =
    set lines line (record { numbers = set (numbers_of (slice_get lines line)) at number })
