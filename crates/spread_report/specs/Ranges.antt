-- The ranges in which every message is a whole frame: those of the types that keep these values.
use Rattle.std.specs.Prelude.{◌≡◌, ℕ, ◌<◌, ◌≤◌, ◌^◌, true, [], length, get_or, unsigned_abs}
use Rattle.std.specs.List.{AllByRecursion}
use Rattle.spread_rules_ids.specs.Ids.{is_id}
use Rattle.spread_rules_rulebook.specs.Rulebook.{Rules, IsListed, month_count, names_of}
use Rattle.spread_rules.specs.Journal.{FitsEvent}
use Rattle.spread_rules.specs.declared.fill.Fill.{Fill}
use Rattle.spread_rules.specs.declared.outcome.Outcome.{Outcome}
use Rattle.spread_rules.specs.declared.outcome.Outcome.TheVariants.{Cancelled, Replaced, Refused, CancelRefused}
use Rattle.spread_report.specs.Outgoing.{AppliedEntry}

-- each month's name is an id of at most 15 bytes
pub record AreNames (rules : Rules) : Type 0 where
  pub ids : (m : ℕ) → m < month_count rules → is_id (get_or (names_of rules) m []) ≡ true
  pub short : (m : ℕ) → m < month_count rules → length (get_or (names_of rules) m []) ≤ 15

-- numbers of 64 bits, and an id
pub record FillInRange (rules : Rules) (f : Fill) : Type 0 where
  pub listed : IsListed rules f.instrument
  pub order : f.order < 2 ^ 64
  pub id : is_id f.id ≡ true
  pub quantity : f.quantity < 2 ^ 64
  pub total : f.total < 2 ^ 64
  pub leaves : f.leaves < 2 ^ 64
  pub price : unsigned_abs f.price < 2 ^ 64
  pub near : unsigned_abs f.near < 2 ^ 64
  pub far : unsigned_abs f.far < 2 ^ 64

-- numbers of 64 bits, and a listed instrument
abbrev pub OutcomeInRange : Rules → Outcome → Type 0
OutcomeInRange rules (Refused reason) = reason < 2 ^ 64
OutcomeInRange rules (Cancelled o) =
    IsListed rules o.instrument × (o.place < 2 ^ 64) × (o.quantity < 2 ^ 64)
OutcomeInRange rules (Replaced o) =
    IsListed rules o.instrument × (o.place < 2 ^ 64) × (o.quantity < 2 ^ 64) × (o.leaves < 2 ^ 64)
OutcomeInRange rules (CancelRefused reason named status) =
    (reason < 2 ^ 64) × (named < 2 ^ 64) × (status < 2 ^ 64)
OutcomeInRange rules _ = Unit {0}

-- an entry in the range of its type, with an outcome and fills in range
pub record EntryInRange (rules : Rules) (w : AppliedEntry) : Type 0 where
  pub place : w.place < 2 ^ 64
  pub event : FitsEvent w.entry.event
  pub outcome : OutcomeInRange rules w.outcome
  pub few : length w.fills ≤ 1000000000
  pub fills : AllByRecursion (FillInRange rules) w.fills
