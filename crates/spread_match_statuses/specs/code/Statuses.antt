-- How a status is found by its session and id, and what a fill or a replace makes of it.
-- Words of the code alone.
use Rattle.std.specs.Prelude.{◌≡◌, ℕ, ◌==◌, ⊤, Bool, true, not, ◌&&◌, cond, List, [], ◌∷◌, map, fold, All, Some, slice_get}
use Rattle.spread_rules.specs.declared.codes.ord_status.TheConstants as ord_status
use Rattle.spread_rules.specs.declared.fill.Fill.{Fill}
use Rattle.spread_rules.specs.declared.outcome.OrderStatus.{OrderStatus}
use Rattle.spread_rules.specs.Meaning.{has_id}
use Rattle.spread_rules_ids.specs.declared.id_key.IdKey.{IdKey}
use Rattle.spread_rules_ids.specs.IdKeys.{key_of, IsIdBytes}
use Rattle.spread_books_ids.specs.declared.id_table.IdTable.{IdTable}
use Rattle.spread_books_ids.specs.Tables.{IsTableOf}

-- the order of that session and id, which was not refused
abbrev pub was_accepted : ℕ → List ℕ → OrderStatus → Bool
was_accepted session id s = has_id session id s && not (s.status == ord_status.REJECTED)

-- an order whose fill leaves nothing is filled
abbrev pub status_after_fill : Fill → OrderStatus → OrderStatus
status_after_fill f s =
    cond (was_accepted f.session f.id s && f.leaves == 0) (record s { status = ord_status.FILLED }) s

abbrev pub statuses_after_fill : List OrderStatus → Fill → List OrderStatus
statuses_after_fill ss f = map (status_after_fill f) ss

abbrev pub statuses_after : List Fill → List OrderStatus → List OrderStatus
statuses_after fills ss = fold statuses_after_fill ss fills

-- an order in whose place another came is replaced
abbrev pub status_after_replace : ℕ → List ℕ → OrderStatus → OrderStatus
status_after_replace session id s =
    cond (has_id session id s && s.status == ord_status.CANCELED)
    (record s { status = ord_status.REPLACED }) s

-- of one session and id, all but the first were refused
abbrev pub AreRefusedLater : List OrderStatus → Type 0
AreRefusedLater [] = ⊤
AreRefusedLater (s ∷ ss) =
    All (λ t. has_id s.session s.id t ≡ true → t.status ≡ ord_status.REJECTED) ss
    × AreRefusedLater ss

-- the session and the id of a status
abbrev pub key_of_status : OrderStatus → IdKey
key_of_status s = key_of s.session s.id

-- the table tells of each session and id the first of their statuses
pub record IsIndex {A : Type 0} (first : IdTable A) (rows : List OrderStatus) : Type 0 where
  pub bytes : All (λ s. IsIdBytes s.id) rows
  pub table : IsTableOf first (map key_of_status rows)

-- at that row stands the order of that session and id, which was not refused
pub record IsAcceptedRow (rows : List OrderStatus) (session : ℕ) (id : List ℕ) (at : ℕ) : Type 0 where
  pub status : OrderStatus
  pub stands : slice_get rows at ≡ Some status
  pub is : was_accepted session id status ≡ true
