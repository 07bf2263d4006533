-- one status is marked, that of the one order of a session and id that was not refused
use Rattle.std.proofs.Common.{◌≡◌, ℕ, zero, suc, ◌==◌, ◌<◌, Bool, true, false, not, ◌&&◌, cond, List, [], ◌∷◌, ◌++◌, map, length, get_or, set, All, Option, Some, None, refl, ap, ◌∙◌, sym, subst, arith}
use Rattle.std.proofs.lemmas.Bool.{and_parts}
use Rattle.std.specs.Prelude.{slice_get, option_and_then, nat_lt}
use Rattle.std.proofs.lemmas.Option.{slice_get_read}
use Rattle.std.specs.List.{find}
use Rattle.std.specs.Str.{bytes_eq}
use Rattle.std.specs.Option.{is_some}
use Rattle.std.proofs.lemmas.Bool.Decides.{nat_tests}
use Rattle.std.proofs.lemmas.List.Elements.{All-head, All-tail, All-cons, All-nil, All-push, All-map}
use Rattle.std.proofs.lemmas.Slice.Eq.{bytes_eq-Decides}
use Rattle.spread_rules.specs.declared.outcome.OrderStatus.{OrderStatus}
use Rattle.spread_rules.specs.Meaning.{has_id}
use Rattle.spread_rules_ids.specs.declared.id_key.IdKey.{IdKey}
use Rattle.spread_rules_ids.specs.IdKeys.{IsIdBytes, key_of}
use Rattle.spread_books_ids.specs.declared.id_table.IdTable.{IdTable}
use Rattle.spread_books_ids.specs.Ids.{first_row}
use Rattle.spread_books_ids.specs.Tables.{IsTableOf}
use Rattle.spread_match_statuses.specs.code.Statuses.{was_accepted, AreRefusedLater, key_of_status, IsIndex}
use Rattle.spread_match_statuses.proofs.status_rows.ByClOrdId.{find_is}

-- ---- whose a status is

pub same_number : (a b : ℕ) → (a == b) ≡ true → a ≡ b
same_number a b e = grind (arith, nat_tests, e)

pub session_is : (session : ℕ) (id : List ℕ) (s : OrderStatus) → has_id session id s ≡ true → s.session ≡ session
session_is session id s h = same_number s.session session (and_parts (s.session == session) (bytes_eq s.id id) h).0

pub id_is : (session : ℕ) (id : List ℕ) (s : OrderStatus) → has_id session id s ≡ true → s.id ≡ id
id_is session id s h = (bytes_eq-Decides s.id id).0 (and_parts (s.session == session) (bytes_eq s.id id) h).1

number_self : (n : ℕ) → (n == n) ≡ true
number_self n = grind (arith, nat_tests)

pub has_own_id : (s : OrderStatus) → has_id s.session s.id s ≡ true
has_own_id s = ap (λ (b : Bool). b && bytes_eq s.id s.id) (number_self s.session) ∙ (bytes_eq-Decides s.id s.id).1 refl

-- two of one session and id
same_order : (session : ℕ) (id : List ℕ) (s t : OrderStatus) → has_id session id s ≡ true → has_id session id t ≡ true
    → has_id s.session s.id t ≡ true
same_order session id s t h k =
    ap (λ (n : ℕ). has_id n s.id t) (session_is session id s h)
    ∙ (ap (λ (i : List ℕ). has_id session i t) (id_is session id s h) ∙ k)

turned : (s t : OrderStatus) → has_id s.session s.id t ≡ true → has_id t.session t.id s ≡ true
turned s t h = same_order s.session s.id t s h (has_own_id s)

-- ---- the one that is open

abbrev pub IsClosed : ℕ → List ℕ → OrderStatus → Type 0
IsClosed session id s = was_accepted session id s ≡ false

is_eight : (n : ℕ) → n ≡ 8 → not (n == 8) ≡ false
is_eight n e = ap (λ (k : ℕ). not (k == 8)) e

closed_if : (session : ℕ) (id : List ℕ) (s : OrderStatus) (b : Bool) → has_id session id s ≡ b
    → (b ≡ true → s.status ≡ 8) → IsClosed session id s
closed_if session id s true e h = ap (λ (b : Bool). b && not (s.status == 8)) e ∙ is_eight s.status (h refl)
closed_if session id s false e h = ap (λ (b : Bool). b && not (s.status == 8)) e

open_has_id : (session : ℕ) (id : List ℕ) (s : OrderStatus) → was_accepted session id s ≡ true
    → has_id session id s ≡ true
open_has_id session id s h = (and_parts (has_id session id s) (not (s.status == 8)) h).0

-- behind the first of a session and id none is open
closed_later : (session : ℕ) (id : List ℕ) (s : OrderStatus) (ss : List OrderStatus) → AreRefusedLater (s ∷ ss)
    → has_id session id s ≡ true → All (IsClosed session id) ss
closed_later session id s ss h e = λ k d lt.
    closed_if session id (get_or ss k d) (has_id session id (get_or ss k d)) refl
    (λ f. h.0 k d lt (same_order session id s (get_or ss k d) e f))

-- where the first is refused, or there is none, none is open
pub closed_all : (session : ℕ) (id : List ℕ) (ss : List OrderStatus) (r : Option OrderStatus) → AreRefusedLater ss
    → find (has_id session id) ss ≡ r → ((s : OrderStatus) → r ≡ Some s → IsClosed session id s)
    → All (IsClosed session id) ss
closed_all session id [] r h e k = All-nil (IsClosed session id)
closed_all session id (s ∷ ss) r h e k = by_test (has_id session id s) refl
    (λ later. closed_all session id ss r h.1 later k)
  where
    by_test : (b : Bool) → has_id session id s ≡ b → (find (has_id session id) ss ≡ r → All (IsClosed session id) ss)
        → All (IsClosed session id) (s ∷ ss)
    by_test true f on =
        let found : r ≡ Some s = sym e ∙ ap (λ (b : Bool). cond b (Some s) (find (has_id session id) ss)) f in
        All-cons (IsClosed session id) s ss (k s found) (closed_later session id s ss h f)
    by_test false f on =
        let later : find (has_id session id) ss ≡ r = sym (ap
        (λ (b : Bool). cond b (Some s) (find (has_id session id) ss)) f) ∙ e in
        All-cons (IsClosed session id) s ss (closed_if session id s false f (λ g. cc)) (on later)

-- ---- a change of the one that is open

-- a change that leaves a status as it is unless it is open
abbrev pub IsMarkOf : ℕ → List ℕ → (OrderStatus → OrderStatus) → Type 0
IsMarkOf session id g = (s : OrderStatus) → IsClosed session id s → g s ≡ s

pub none_marked : (session : ℕ) (id : List ℕ) (g : OrderStatus → OrderStatus) (ss : List OrderStatus)
    → IsMarkOf session id g → All (IsClosed session id) ss → map g ss ≡ ss
none_marked session id g [] m h = refl
none_marked session id g (s ∷ ss) m h =
    ap (λ (x : OrderStatus). x ∷ map g ss) (m s (All-head (IsClosed session id) s ss h))
    ∙ ap (λ (xs : List OrderStatus). s ∷ xs) (none_marked session id g ss m (All-tail (IsClosed session id) s ss h))

some_is : (a b : OrderStatus) → ◌≡◌ {A = Option OrderStatus} (Some a) (Some b) → a ≡ b
some_is a b f = cc

stands_closed : (session : ℕ) (id : List ℕ) (ss : List OrderStatus) (at : ℕ) (r : OrderStatus)
    → All (IsClosed session id) ss → slice_get ss at ≡ Some r → IsClosed session id r
stands_closed session id [] at r h e = cc
stands_closed session id (s ∷ ss) zero r h e = subst (IsClosed session id) (some_is s r e)
    (All-head (IsClosed session id) s ss h)
stands_closed session id (s ∷ ss) (suc at) r h e =
    stands_closed session id ss at r (All-tail (IsClosed session id) s ss h) e

-- the one that is open is changed, the others stay
pub one_marked : (session : ℕ) (id : List ℕ) (g : OrderStatus → OrderStatus) (ss : List OrderStatus) (at : ℕ)
    (r : OrderStatus) → IsMarkOf session id g → AreRefusedLater ss → slice_get ss at ≡ Some r
    → was_accepted session id r ≡ true →
    set ss at (g r) ≡ map g ss
one_marked session id g [] at r m h e o = refl
one_marked session id g (s ∷ ss) zero r m h e o =
    let same : s ≡ r = some_is s r e in
    ap (λ (x : OrderStatus). g x ∷ ss) (sym same)
    ∙ ap (λ (xs : List OrderStatus). g s ∷ xs) (sym (none_marked session id g ss m
    (closed_later session id s ss h (subst (λ (x : OrderStatus). has_id session id x ≡ true) (sym same)
    (open_has_id session id r o)))))
one_marked session id g (s ∷ ss) (suc at) r m h e o =
    ap (λ (x : OrderStatus). x ∷ set ss at (g r)) (sym (m s (by_test (has_id session id s) refl)))
    ∙ ap (λ (xs : List OrderStatus). g s ∷ xs) (one_marked session id g ss at r m h.1 e o)
  where
    by_test : (b : Bool) → has_id session id s ≡ b → IsClosed session id s
    by_test false f = closed_if session id s false f (λ k. cc)
    by_test true f = let k = stands_closed session id ss at r (closed_later session id s ss h f) e in cc

-- ---- what a change keeps

-- a change that keeps whose a status is, its place, and that it was refused
pub record KeepsName (g : OrderStatus → OrderStatus) : Type 0 where
  pub session : (s : OrderStatus) → (g s).session ≡ s.session
  pub id : (s : OrderStatus) → (g s).id ≡ s.id
  pub place : (s : OrderStatus) → (g s).place ≡ s.place
  pub refused : (s : OrderStatus) → s.status ≡ 8 → (g s).status ≡ 8

pub has_id_kept : (g : OrderStatus → OrderStatus) (session : ℕ) (id : List ℕ) (s : OrderStatus) → KeepsName g
    → has_id session id (g s) ≡ has_id session id s
has_id_kept g session id s k = ap (λ (n : ℕ). n == session && bytes_eq (g s).id id) (k.session s)
    ∙ ap (λ (i : List ℕ). s.session == session && bytes_eq i id) (k.id s)

pub later_marked : (g : OrderStatus → OrderStatus) (ss : List OrderStatus) → KeepsName g → AreRefusedLater ss
    → AreRefusedLater (map g ss)
later_marked g [] k h = tt
later_marked g (s ∷ ss) k h = (
  All-map (λ (t : OrderStatus). has_id (g s).session (g s).id t ≡ true → t.status ≡ 8) g ss
      (λ i d lt e. k.refused (get_or ss i d) (h.0 i d lt (as_before (get_or ss i d) e))),
  later_marked g ss k h.1,
)
  where
    as_before : (t : OrderStatus) → has_id (g s).session (g s).id (g t) ≡ true → has_id s.session s.id t ≡ true
    as_before t e =
        ap (λ (n : ℕ). has_id n s.id t) (sym (k.session s))
        ∙ (ap (λ (i : List ℕ). has_id (g s).session i t) (sym (k.id s))
        ∙ (sym (has_id_kept g (g s).session (g s).id t k) ∙ e))

keys_marked : (g : OrderStatus → OrderStatus) (ss : List OrderStatus)
    → ((s : OrderStatus) → key_of_status (g s) ≡ key_of_status s) → map key_of_status (map g ss) ≡ map key_of_status ss
keys_marked g [] k = refl
keys_marked g (s ∷ ss) k =
    ap (λ (x : IdKey). x ∷ map key_of_status (map g ss)) (k s)
    ∙ ap (λ (ks : List IdKey). key_of_status s ∷ ks) (keys_marked g ss k)

pub index_marked : {A : Type 0} (g : OrderStatus → OrderStatus) (first : IdTable A) (ss : List OrderStatus)
    → KeepsName g → ((s : OrderStatus) → key_of_status (g s) ≡ key_of_status s) → IsIndex first ss
    → IsIndex first (map g ss)
index_marked g first ss k same h = record {
  bytes = All-map (λ (t : OrderStatus). IsIdBytes t.id) g ss
      (λ i d lt. subst IsIdBytes (sym (k.id _)) (h.bytes i d lt));
  table = subst (IsTableOf first) (sym (keys_marked g ss same)) h.table;
}

-- ---- one status more

found_if : (session : ℕ) (id : List ℕ) (ss : List OrderStatus) (at : ℕ) (d : OrderStatus) → at < length ss
    → has_id session id (get_or ss at d) ≡ true → is_some (find (has_id session id) ss) ≡ true
found_if session id [] at d lt e = absurd (omega arith)
found_if session id (s ∷ ss) zero d lt e = ap (λ (b : Bool). is_some (cond b (Some s) (find (has_id session id) ss))) e
found_if session id (s ∷ ss) (suc at) d lt e = by_test (has_id session id s)
    (found_if session id ss at d (omega arith) e)
  where
    by_test : (b : Bool) → is_some (find (has_id session id) ss) ≡ true
        → is_some (cond b (Some s) (find (has_id session id) ss)) ≡ true
    by_test true f = refl
    by_test false f = f

push_later : (ss : List OrderStatus) (s : OrderStatus)
    → ((i : ℕ) (d : OrderStatus) → i < length ss → has_id s.session s.id (get_or ss i d) ≡ true → s.status ≡ 8)
    → AreRefusedLater ss → AreRefusedLater (ss ++ s ∷ [])
push_later [] s k h = (All-nil (λ (t : OrderStatus). has_id s.session s.id t ≡ true → t.status ≡ 8), tt)
push_later (x ∷ ss) s k h = (
  All-push (λ (t : OrderStatus). has_id x.session x.id t ≡ true → t.status ≡ 8) ss s h.0
      (λ e. k zero x (omega arith) (turned x s e)),
  push_later ss s (λ i d lt e. k (suc i) d (omega arith) e) h.1,
)

-- where its session and id were used, it is refused
pub later_more : (ss : List OrderStatus) (s : OrderStatus) (used : Bool)
    → used ≡ is_some (find (has_id s.session s.id) ss) → (used ≡ true → s.status ≡ 8) → AreRefusedLater ss
    → AreRefusedLater (ss ++ s ∷ [])
later_more ss s used u k h = push_later ss s (λ i d lt e. k (u ∙ found_if s.session s.id ss i d lt e)) h

-- ---- what a search by session and id finds

looked : (rows : List OrderStatus) (session : ℕ) (id : List ℕ) (key : IdKey) (at : Option ℕ)
    → All (λ (s : OrderStatus). IsIdBytes s.id) rows → IsIdBytes id → key ≡ key_of session id
    → at ≡ first_row key (map key_of_status rows) →
    find (has_id session id) rows ≡ option_and_then (slice_get rows) at
looked rows session id key at bytes b k e =
    sym (find_is rows session id bytes b) ∙ ap (option_and_then (slice_get rows))
    (sym (e ∙ ap (λ (x : IdKey). first_row x (map key_of_status rows)) k))

-- no row is found
pub none_open : (rows : List OrderStatus) (session : ℕ) (id : List ℕ) (key : IdKey) (at : Option ℕ)
    → All (λ (s : OrderStatus). IsIdBytes s.id) rows → IsIdBytes id → key ≡ key_of session id
    → at ≡ first_row key (map key_of_status rows) →
    AreRefusedLater rows → option_and_then (slice_get rows) at ≡ None → All (IsClosed session id) rows
none_open rows session id key at bytes b k e h n =
    closed_all session id rows None h (looked rows session id key at bytes b k e ∙ n) (λ s f. cc)

-- the first row is refused
pub first_closed : (rows : List OrderStatus) (session : ℕ) (id : List ℕ) (key : IdKey) (at : Option ℕ) (s : OrderStatus)
    → All (λ (t : OrderStatus). IsIdBytes t.id) rows → IsIdBytes id → key ≡ key_of session id
    → at ≡ first_row key (map key_of_status rows) →
    AreRefusedLater rows → option_and_then (slice_get rows) at ≡ Some s → IsClosed session id s
    → All (IsClosed session id) rows
first_closed rows session id key at s bytes b k e h n c =
    closed_all session id rows (Some s) h (looked rows session id key at bytes b k e ∙ n)
    (λ t f. subst (IsClosed session id) (some_is s t f) c)

-- the row that was read
pub read_row : (rows : List OrderStatus) (at : ℕ) (s d : OrderStatus) → true ≡ nat_lt at (length rows)
    → s ≡ get_or rows at s → slice_get rows at ≡ Some s
read_row rows at s d lt e = slice_get_read rows (length rows) at s refl (grind (arith, nat_tests, lt)) e
