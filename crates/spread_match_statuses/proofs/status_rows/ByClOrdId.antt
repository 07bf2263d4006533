-- statuses by session and id: the first row of a key, one status more, and renewed statuses
use Rattle.std.proofs.Common.{◌≡◌, ℕ, suc, ◌==◌, Bool, true, false, ◌&&◌, cond, List, [], ◌∷◌, ◌++◌, map, All, Option, Some, None, refl, ap, ◌∙◌, sym, subst, arith}
use Rattle.std.specs.Prelude.{slice_get, option_and_then, option_map}
use Rattle.std.specs.List.{find}
use Rattle.std.specs.Str.{bytes_eq}
use Rattle.std.specs.Option.{is_some}
use Rattle.std.specs.Bool.{Decides}
use Rattle.std.specs.Ordering.{is_eq}
use Rattle.std.proofs.lemmas.Bool.Decides.{nat_tests}
use Rattle.std.proofs.lemmas.List.{map-append}
use Rattle.std.proofs.lemmas.List.Elements.{All-head, All-tail, All-push}
use Rattle.std.proofs.lemmas.Slice.Eq.{bytes_eq-Decides}
use Rattle.spread_rules_ids.specs.declared.id_key.IdKey.{IdKey}
use Rattle.spread_rules.specs.declared.outcome.OrderStatus.{OrderStatus}
use Rattle.spread_rules_ids.specs.IdKeys.{key_of, IsIdBytes, id_key_cmp}
use Rattle.spread_rules.specs.Meaning.{has_id}
use Rattle.spread_rules_ids.proofs.IdKeyOnce.{one_key}
use Rattle.spread_books_ids.specs.declared.id_table.IdTable.{IdTable}
use Rattle.spread_books_ids.specs.Ids.{is_key, first_row}
use Rattle.spread_books_ids.specs.Tables.{IsTableOf}
use Rattle.spread_books_ids.proofs.Keys.{is_key_sym, exact_id_key, equal_is, key_self}
use Rattle.spread_match_statuses.specs.code.Statuses.{key_of_status, IsIndex}

-- ---- keys

bytes_same : (a b : List ℕ) → a ≡ b → bytes_eq a b ≡ true
bytes_same a b e = (bytes_eq-Decides a b).1 e

same_key : (s t : ℕ) (a b : List ℕ) → IsIdBytes a → IsIdBytes b
    → is_eq (id_key_cmp (key_of s a) (key_of t b)) ≡ (s == t && bytes_eq a b)
same_key s t a b x y = by_test (is_eq (id_key_cmp (key_of s a) (key_of t b))) refl
  where
    both_true : (c d : Bool) → c ≡ true → d ≡ true → true ≡ (c && d)
    both_true true true e f = refl
    both_true false d e f = cc
    both_true true false e f = cc

    same_number : (n m : ℕ) → n ≡ m → (n == m) ≡ true
    same_number n m e = grind (arith, nat_tests, e)

    one_number : (n m : ℕ) → (n == m) ≡ true → n ≡ m
    one_number n m e = grind (arith, nat_tests, e)

    not_both : (c d : Bool) → s == t ≡ c → bytes_eq a b ≡ d → Decides d (a ≡ b)
        → is_eq (id_key_cmp (key_of s a) (key_of t b)) ≡ false → false ≡ (c && d)
    not_both false d e f g h = refl
    not_both true false e f g h = refl
    not_both true true e f g h =
        let same : key_of s a ≡ key_of t b = ap (λ (n : ℕ). key_of n a) (one_number s t e) ∙ ap (key_of t) (g.0 refl) in
        let equal = ap is_eq (ap (λ (k : IdKey). id_key_cmp k (key_of t b)) same ∙ key_self (key_of t b)) in
        cc

    by_test : (c : Bool) → is_eq (id_key_cmp (key_of s a) (key_of t b)) ≡ c → c ≡ (s == t && bytes_eq a b)
    by_test true e =
        let once = one_key s t a b x y (exact_id_key (key_of s a) (key_of t b)
        (equal_is (id_key_cmp (key_of s a) (key_of t b)) e)) in
        both_true (s == t) (bytes_eq a b) (same_number s t once.0) (bytes_same a b once.1)
    by_test false e = not_both (s == t) (bytes_eq a b) refl refl (bytes_eq-Decides a b) e

key_has_id : (session : ℕ) (id : List ℕ) (s : OrderStatus) → IsIdBytes s.id → IsIdBytes id
    → is_key (key_of session id) (key_of_status s) ≡ has_id session id s
key_has_id session id s x y = is_key_sym (key_of session id) (key_of_status s) ∙ same_key s.session session s.id id x y

-- ---- the first row of a key

one_on : (s : OrderStatus) (rows : List OrderStatus) (r : Option ℕ)
    → option_and_then (slice_get (s ∷ rows)) (option_map suc r) ≡ option_and_then (slice_get rows) r
one_on s rows None = refl
one_on s rows (Some i) = refl

-- the status at the first row of a key is the first of that session and id
pub find_is : (rows : List OrderStatus) (session : ℕ) (id : List ℕ) → All (λ (s : OrderStatus). IsIdBytes s.id) rows
    → IsIdBytes id →
    option_and_then (slice_get rows) (first_row (key_of session id) (map key_of_status rows)) ≡ find (has_id session id)
    rows
find_is [] session id h x = refl
find_is (s ∷ rows) session id h x =
    ap (λ (b : Bool). option_and_then (slice_get (s ∷ rows))
    (cond b (Some 0) (option_map suc (first_row (key_of session id) (map key_of_status rows)))))
    (key_has_id session id s (All-head (λ (t : OrderStatus). IsIdBytes t.id) s rows h) x)
    ∙ by_test (has_id session id s) (find_is rows session id (All-tail (λ (t : OrderStatus). IsIdBytes t.id) s rows h)
    x)
  where
    by_test : (b : Bool) → option_and_then (slice_get rows) (first_row (key_of session id) (map key_of_status rows)) ≡
        find (has_id session id) rows → option_and_then (slice_get (s ∷ rows))
        (cond b (Some 0) (option_map suc (first_row (key_of session id) (map key_of_status rows)))) ≡ cond b (Some s)
        (find (has_id session id) rows)
    by_test true later = refl
    by_test false later = one_on s rows (first_row (key_of session id) (map key_of_status rows)) ∙ later

some_suc : (r : Option ℕ) → is_some (option_map suc r) ≡ is_some r
some_suc None = refl
some_suc (Some i) = refl

-- a key has a row exactly where its session and id have a status
pub used_is : (rows : List OrderStatus) (session : ℕ) (id : List ℕ) → All (λ (s : OrderStatus). IsIdBytes s.id) rows
    → IsIdBytes id →
    is_some (first_row (key_of session id) (map key_of_status rows)) ≡ is_some (find (has_id session id) rows)
used_is [] session id h x = refl
used_is (s ∷ rows) session id h x =
    ap (λ (b : Bool). is_some (cond b (Some 0) (option_map suc
    (first_row (key_of session id) (map key_of_status rows)))))
    (key_has_id session id s (All-head (λ (t : OrderStatus). IsIdBytes t.id) s rows h) x)
    ∙ by_test (has_id session id s) (used_is rows session id (All-tail (λ (t : OrderStatus). IsIdBytes t.id) s rows h)
    x)
  where
    by_test : (b : Bool) → is_some (first_row (key_of session id) (map key_of_status rows)) ≡ is_some
        (find (has_id session id) rows) → is_some (cond b (Some 0)
        (option_map suc (first_row (key_of session id) (map key_of_status rows)))) ≡ is_some
        (cond b (Some s) (find (has_id session id) rows))
    by_test true later = refl
    by_test false later = some_suc (first_row (key_of session id) (map key_of_status rows)) ∙ later

-- ---- one status more

pub index_more : {A : Type 0} (first : IdTable A) (rows : List OrderStatus) (s : OrderStatus) (key : IdKey)
    → IsIdBytes s.id → key ≡ key_of_status s → All (λ (t : OrderStatus). IsIdBytes t.id) rows →
    IsTableOf first (map key_of_status rows ++ key ∷ []) → IsIndex first (rows ++ s ∷ [])
index_more first rows s key bytes is h table = record {
  bytes = All-push (λ (t : OrderStatus). IsIdBytes t.id) rows s h bytes;
  table = subst (IsTableOf first) (ap (λ (k : IdKey). map key_of_status rows ++ k ∷ []) is
      ∙ sym (map-append key_of_status rows (s ∷ []))) table;
}
