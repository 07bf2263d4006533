-- rows in order of place: one more behind them, and where a search by halves finds a place
use Rattle.std.proofs.Common.{◌≡◌, nat_lt, Result, Ok, Err, ℕ, zero, suc, ◌<◌, ◌≤◌, true, false, Bool, cond, List, [], ◌∷◌, ◌++◌, length, get_or, All, refl, sym, arith}
use Rattle.std.proofs.lemmas.Bool.Decides.{nat_tests}
use Rattle.std.proofs.lemmas.List.Elements.{All-nil, All-head, All-tail, All-push}
use Rattle.std.specs.Prelude.{◌≢◌, OnErr, IfOk}
use Rattle.std.specs.List.Sorted.{IsBinarySearchResult, IsNonDecreasingBy}
use Rattle.std.specs.Ordering.{nat_cmp, ordering_index}
use Rattle.std.proofs.lemmas.Cmp.{ranked}
use Rattle.spread_books_rows.specs.RisingRows.{RisesBy}

nat_lt_is : (a b : ℕ) → cond (nat_lt a b) (a < b) (b ≤ a)
nat_lt_is a b = by_test (nat_lt a b) refl
  where
    by_test : (t : Bool) → nat_lt a b ≡ t → cond t (a < b) (b ≤ a)
    by_test true e = grind (arith, nat_tests, e)
    by_test false e = grind (arith, nat_tests, e)

module _ {T : Type 0} (place_of : T → ℕ) where
  pub rises_push : (rs : List T) (r : T) → RisesBy place_of rs → All (λ t. place_of t < place_of r) rs
      → RisesBy place_of (rs ++ r ∷ [])
  rises_push [] r h below = (All-nil (λ (t : T). place_of r < place_of t), tt)
  rises_push (x ∷ rs) r h below =
      let before = All-head (λ (t : T). place_of t < place_of r) x rs below in
      let after = All-tail (λ (t : T). place_of t < place_of r) x rs below in
      (All-push (λ (t : T). place_of x < place_of t) rs r h.0 before, rises_push rs r h.1 after)

  pub not_later : (rs : List T) (i j : ℕ) (d : T) → RisesBy place_of rs → i ≤ j → j < length rs
      → place_of (get_or rs i d) ≤ place_of (get_or rs j d)
  not_later [] i j d h le lt = absurd (omega arith)
  not_later (r ∷ rs) zero zero d h le lt = omega arith
  not_later (r ∷ rs) zero (suc j) d h le lt = let a = h.0 j d (omega arith) in omega (arith, a)
  not_later (r ∷ rs) (suc i) zero d h le lt = absurd (omega arith)
  not_later (r ∷ rs) (suc i) (suc j) d h le lt = not_later rs i j d h.1 (omega arith) (omega arith)

  comparisons_rise : (rs : List T) (place : ℕ) → RisesBy place_of rs
      → IsNonDecreasingBy (λ r. ordering_index (nat_cmp (place_of r) place)) rs
  comparisons_rise rs place h i j d le lt =
      let a = not_later rs i j d h le lt in
      grind (arith, nat_tests, a)

  pub by_place : (rs : List T) (place : ℕ) (r : Result ℕ ℕ) → RisesBy place_of rs
      → IsBinarySearchResult (λ s. nat_cmp (place_of s) place) rs r →
      record {
        found : IfOk r (λ i. (d : T) → place_of (get_or rs i d) ≡ place);
        absent : OnErr r (All (λ s. place_of s ≢ place) rs);
      }
  by_place rs place (Ok at) h equal = record {
    found = λ d. ranked (place_of (get_or rs at d)) place _ (sym (equal d));
    absent = tt;
  }
  by_place rs place (Err at) h parted = record { found = tt; absent = differ }
    where
      differ : All (λ s. place_of s ≢ place) rs
      differ k d lt same = by_side (nat_lt k at) (nat_lt_is k at)
        where
          by_side : (b : Bool) → cond b (k < at) (at ≤ k) → ⊥
          by_side false le = let a = ranked (place_of (get_or rs k d)) place _
              (sym ((parted (comparisons_rise rs place h)).1 k d le lt)) in omega (arith, a, same)
          by_side true gt = let a = ranked (place_of (get_or rs k d)) place _
              (sym ((parted (comparisons_rise rs place h)).0 k d (omega arith) gt)) in omega (arith, a, same)
