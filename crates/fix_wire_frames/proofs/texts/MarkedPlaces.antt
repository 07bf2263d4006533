-- The places of SOHs as the bits of a number.
use Rattle.std.proofs.Common.{◌≡◌, ℕ, zero, suc, ◌+◌, ◌-◌, ◌*◌, ◌^◌, ◌<◌, ◌≤◌, Bool, true, false, cond, not, List, [], ◌∷◌, ◌++◌, length, take, drop, map, refl, sym, ap, ◌∙◌, arith}
use lib.Count.{count_trailing_zeros}
use lib.Lanes.{mask_l}
use Rattle.std.specs.List.{position_or_len}
use Rattle.std.proofs.lemmas.Simd.{leading_from_mask_l, trailing_mask_l, length-replicate}
use Rattle.std.proofs.lemmas.List.{drop-take, drop-drop, length-take, length-append, length-take-le, length-drop, take_all}
use Rattle.std.proofs.lemmas.Nat.{and_block}
use lib.Bits.{bit_and, and_self}
use Rattle.fix_wire_frames.specs.code.Texts.{is_soh}
use Rattle.fix_wire_frames.specs.code.Marked.{marks_of, zeros}
use Rattle.fix_wire_values.proofs.FirstPlace.{front_none}

pub marks_are : (xs : List ℕ) → marks_of xs ≡ mask_l (map is_soh xs)
marks_are [] = refl
marks_are (x ∷ xs) = ap (λ n. cond (is_soh x) 1 0 + 2 * n) (marks_are xs)

-- bytes that are no SOH add nothing
pub marks_padded : (xs : List ℕ) (n : ℕ) → marks_of (xs ++ zeros n) ≡ marks_of xs
marks_padded [] zero = refl
marks_padded [] (suc n) = let e = marks_padded [] n in omega (arith, e)
marks_padded (x ∷ xs) n = ap (λ k. cond (is_soh x) 1 0 + 2 * k) (marks_padded xs n)

-- no mark, no SOH
pub none_marked : (xs : List ℕ) → marks_of xs ≡ 0 → position_or_len is_soh xs ≡ length xs
none_marked xs e = leading_from_mask_l is_soh xs (sym (marks_are xs) ∙ e)

-- a mark is that of an SOH
pub some_marked : (xs : List ℕ) → 0 < marks_of xs → position_or_len is_soh xs < length xs
some_marked [] l = absurd (omega arith)
some_marked (x ∷ xs) l =
    elim (is_soh x) as (λ v. 0 < cond v 1 0 + 2 * marks_of xs
    → cond (not v) (1 + position_or_len is_soh xs) 0 < suc (length xs)) [
      | true ↦ λ _. omega arith
      | false ↦ λ h. (let below = some_marked xs (omega (arith, h)) in omega (arith, below))
    ] l

-- the lowest mark is that of the first SOH
pub first_marked : (xs : List ℕ) → length xs ≤ 64 → 0 < marks_of xs
    → count_trailing_zeros 64 (marks_of xs) ≡ position_or_len is_soh xs
first_marked xs few some =
    let e = marks_are xs in
    ap (count_trailing_zeros 64) e ∙ trailing_mask_l is_soh 64 xs few (omega (arith, e, some))

-- the place among the first n is the place in all
front_found_short : (p : ℕ → Bool) (n : ℕ) (xs : List ℕ) → position_or_len p (take n xs) < length (take n xs)
    → position_or_len p (take n xs) ≡ position_or_len p xs
front_found_short p zero xs l = absurd (omega arith)
front_found_short p (suc n) [] l = absurd (omega arith)
front_found_short p (suc n) (x ∷ xs) l =
    elim (p x) as (λ v. cond (not v) (1 + position_or_len p (take n xs)) 0 < suc (length (take n xs))
    → cond (not v) (1 + position_or_len p (take n xs)) 0 ≡ cond (not v) (1 + position_or_len p xs) 0) [
      | true ↦ λ _. refl
      | false ↦ λ h. ap (λ k. 1 + k) (front_found_short p n xs (omega (arith, h)))
    ] l

-- ---- bytes before a place, which are taken for 0

pub zeros_none : (k : ℕ) (xs : List ℕ) → marks_of (zeros k ++ xs) ≡ 0 → marks_of xs ≡ 0
zeros_none zero xs e = e
zeros_none (suc k) xs e = zeros_none k xs (omega (arith, e))

zeros_some : (k : ℕ) (xs : List ℕ) → 0 < marks_of (zeros k ++ xs) → 0 < marks_of xs
zeros_some zero xs l = l
zeros_some (suc k) xs l = zeros_some k xs (omega (arith, l))

zeros_place : (k : ℕ) (xs : List ℕ) → position_or_len is_soh (zeros k ++ xs) ≡ k + position_or_len is_soh xs
zeros_place zero xs = omega arith
zeros_place (suc k) xs = let e = zeros_place k xs in omega (arith, e)

zeros_more : (k n : ℕ) (xs : List ℕ) → zeros k ++ (zeros n ++ xs) ≡ zeros (k + n) ++ xs
zeros_more zero n xs = let e : n ≡ 0 + n = omega arith in ap (λ m. zeros m ++ xs) e
zeros_more (suc k) n xs = let e : suc (k + n) ≡ suc k + n = omega arith in ap (λ t. 0 ∷ t) (zeros_more k n xs)
    ∙ ap (λ m. zeros m ++ xs) e

zeros_length : (k : ℕ) → length (zeros k) ≡ k
zeros_length k = length-replicate k 0

-- ---- the lowest mark taken away

-- the first SOH made 0
abbrev unmarked : List ℕ → List ℕ
unmarked [] = []
unmarked (x ∷ xs) = cond (is_soh x) (0 ∷ xs) (x ∷ unmarked xs)

and_odd : (m : ℕ) → bit_and (1 + 2 * m) (1 + 2 * m - 1) ≡ 2 * m
and_odd m =
    let a : 1 + 2 * m ≡ m * 2 ^ 1 + 1 = omega arith in
    let b : 1 + 2 * m - 1 ≡ m * 2 ^ 1 + 0 = omega arith in
    let same = and_self m in
    let both = and_block 1 m m 1 0 (omega arith) (omega arith) in
    ap (λ n. bit_and n (1 + 2 * m - 1)) a ∙ ap (bit_and (m * 2 ^ 1 + 1)) b ∙ omega (arith, both, same)

and_even : (m : ℕ) → 0 < m → bit_and (0 + 2 * m) (0 + 2 * m - 1) ≡ 2 * bit_and m (m - 1)
and_even m l =
    let a : 0 + 2 * m ≡ m * 2 ^ 1 + 0 = omega arith in
    let b : 0 + 2 * m - 1 ≡ (m - 1) * 2 ^ 1 + 1 = omega arith in
    let both = and_block 1 m (m - 1) 0 1 (omega arith) (omega arith) in
    ap (λ n. bit_and n (0 + 2 * m - 1)) a ∙ ap (bit_and (m * 2 ^ 1 + 0)) b ∙ omega (arith, both)

cleared_marks : (xs : List ℕ) → 0 < marks_of xs → bit_and (marks_of xs) (marks_of xs - 1) ≡ marks_of (unmarked xs)
cleared_marks [] l = absurd (omega arith)
cleared_marks (x ∷ xs) l = by_test (λ h. cleared_marks xs h) (is_soh x) refl l
  where
    zero_more : (n : ℕ) → 0 + 2 * n ≡ 2 * n
    zero_more n = omega arith

    by_test : (0 < marks_of xs → bit_and (marks_of xs) (marks_of xs - 1) ≡ marks_of (unmarked xs)) → (v : Bool)
        → is_soh x ≡ v → 0 < cond v 1 0 + 2 * marks_of xs → bit_and (cond v 1 0 + 2 * marks_of xs)
        (cond v 1 0 + 2 * marks_of xs - 1) ≡ marks_of (cond v (0 ∷ xs) (x ∷ unmarked xs))
    by_test ih true e h = let odd = and_odd (marks_of xs) in omega (arith, odd)
    by_test ih false e h =
        let some : 0 < marks_of xs = omega (arith, h) in
        and_even (marks_of xs) some ∙ ap (λ n. 2 * n) (ih some)
        ∙ sym (ap (λ v. cond v 1 0 + 2 * marks_of (unmarked xs)) e ∙ zero_more (marks_of (unmarked xs)))

-- what follows the first SOH keeps its marks
unmarked_is : (xs : List ℕ) → 0 < marks_of xs → marks_of (unmarked xs) ≡ marks_of
    (zeros (position_or_len is_soh xs + 1) ++ drop (position_or_len is_soh xs + 1) xs)
unmarked_is [] l = absurd (omega arith)
unmarked_is (x ∷ xs) l = by_test (λ h. unmarked_is xs h) (is_soh x) refl l
  where
    by_test : (0 < marks_of xs → marks_of (unmarked xs) ≡ marks_of
        (zeros (position_or_len is_soh xs + 1) ++ drop (position_or_len is_soh xs + 1) xs)) → (v : Bool) → is_soh x ≡ v
        → 0 < cond v 1 0 + 2 * marks_of xs
        → marks_of (cond v (0 ∷ xs) (x ∷ unmarked xs)) ≡ marks_of
        (zeros (cond (not v) (1 + position_or_len is_soh xs) 0 + 1)
        ++ drop (cond (not v) (1 + position_or_len is_soh xs) 0 + 1) (x ∷ xs))
    by_test ih true e h = refl
    by_test ih false e h =
        let q = position_or_len is_soh xs in
        let more : suc (position_or_len is_soh xs + 1) ≡ 1 + position_or_len is_soh xs + 1 = omega arith in
        ap (λ v. cond v 1 0 + 2 * marks_of (unmarked xs)) e
        ∙ ap (λ n. 0 + 2 * n) (ih (omega (arith, h)))
        ∙ ap (λ n. marks_of (zeros n ++ drop n (x ∷ xs))) more

unmarked_behind : (k : ℕ) (xs : List ℕ) → 0 < marks_of xs
    → marks_of (unmarked (zeros k ++ xs)) ≡ marks_of (zeros (k + (position_or_len is_soh xs + 1))
    ++ drop (position_or_len is_soh xs + 1) xs)
unmarked_behind k xs l = in_front k ∙ ap marks_of (zeros_more k (position_or_len is_soh xs + 1)
    (drop (position_or_len is_soh xs + 1) xs))
  where
    in_front : (k : ℕ) → marks_of (unmarked (zeros k ++ xs)) ≡ marks_of
        (zeros k ++ (zeros (position_or_len is_soh xs + 1) ++ drop (position_or_len is_soh xs + 1) xs))
    in_front zero = unmarked_is xs l
    in_front (suc k) = ap (λ n. 0 + 2 * n) (in_front k)

-- ---- the marks of a block from a place on

-- the first mark is that of the first SOH
pub first_of_marks : (text : List ℕ) (from next bits : ℕ) → from ≤ next → next ≤ from + 64
    → bits ≡ marks_of (zeros (from + 64 - next) ++ take (next - from) (drop from text)) → 0 < bits →
    (next + count_trailing_zeros 64 bits ≡ from + position_or_len is_soh (drop from text) + 64)
    × (from + position_or_len is_soh (drop from text) + 1 ≤ next)
first_of_marks text from next bits l few e some =
    let xs = drop from text in
    let k = next - from in
    let ys = take (next - from) (drop from text) in
    let z = from + 64 - next in
    let short = length-take k xs in
    let whole = length-append (zeros z) ys in
    let front = zeros_length z in
    let count = ap (count_trailing_zeros 64) e ∙ first_marked (zeros z ++ ys) (omega (arith, short, whole, front))
    (omega (arith, e, some)) in
    let marked = zeros_some z ys (omega (arith, e, some)) in
    let below = some_marked ys marked in
    let here = front_found_short is_soh k xs below in
    let place = zeros_place z ys in
    (omega (arith, count, here, place), omega (arith, here, below, short))

-- the marks behind it
pub marked_behind : (text : List ℕ) (from next bits end : ℕ) → from ≤ next → next ≤ from + 64
    → bits ≡ marks_of (zeros (from + 64 - next) ++ take (next - from) (drop from text)) → 0 < bits
    → end ≡ from + position_or_len is_soh (drop from text) → end + 1 ≤ next →
    bit_and bits (bits - 1) ≡ marks_of (zeros (end + 1 + 64 - next) ++ take (next - (end + 1)) (drop (end + 1) text))
marked_behind text from next bits end l few e some is within =
    let xs = drop from text in
    let ys = take (next - from) (drop from text) in
    let z = from + 64 - next in
    let q = position_or_len is_soh ys in
    let m = next - (end + 1) in
    let marked = zeros_some z ys (omega (arith, e, some)) in
    let below = some_marked ys marked in
    let here = front_found_short is_soh (next - from) xs below in
    let count : from + 64 - next + (position_or_len is_soh (take (next - from) (drop from text)) + 1) ≡ end + 1 + 64 -
    next = omega (arith, here, is) in
    let size : next - from ≡ (position_or_len is_soh (take (next - from) (drop from text)) + 1) + (next - (end + 1)) =
    omega (arith, here, is, within) in
    let place : from + (position_or_len is_soh (take (next - from) (drop from text)) + 1) ≡ end + 1 =
    omega (arith, here, is) in
    let behind : drop (q + 1) ys ≡ take m (drop (end + 1) text) =
    ap (λ n. drop (q + 1) (take n xs)) size ∙ drop-take (q + 1) m xs
    ∙ ap (take m) (drop-drop (q + 1) from text ∙ ap (λ n. drop n text) place) in
    ap (λ n. bit_and n (n - 1)) e
    ∙ cleared_marks (zeros z ++ ys) (omega (arith, e, some))
    ∙ unmarked_behind z ys marked
    ∙ ap (λ n. marks_of (zeros n ++ drop (q + 1) ys)) count
    ∙ ap (λ t. marks_of (zeros (end + 1 + 64 - next) ++ t)) behind

-- where none is marked up to the next, the first SOH is behind it
pub none_up_to : (text : List ℕ) (from next : ℕ) → from ≤ next → next ≤ length text
    → marks_of (take (next - from) (drop from text)) ≡ 0
    → next + position_or_len is_soh (drop next text) ≡ from + position_or_len is_soh (drop from text)
none_up_to text from next l fits none =
    let xs = drop from text in
    let k = next - from in
    let len = length-drop from text in
    let all = length-take-le k xs (omega (arith, len)) in
    let place = none_marked (take k xs) none in
    let behind = front_none is_soh k xs (omega (arith, place, all)) (omega (arith, len)) in
    let sum : from + (next - from) ≡ next = omega arith in
    let same = ap (position_or_len is_soh) (drop-drop k from text ∙ ap (λ n. drop n text) sum) in
    omega (arith, behind, same, sum)

-- where none is marked up to the end, there is none
pub none_to_end : (text : List ℕ) (from next : ℕ) → from ≤ length text → length text ≤ next
    → marks_of (take (next - from) (drop from text)) ≡ 0 → length text ≡ from + position_or_len is_soh (drop from text)
none_to_end text from next within l none =
    let len = length-drop from text in
    let all = take_all (next - from) (drop from text) (omega (arith, len)) in
    let place = none_marked (drop from text) (ap marks_of (sym all) ∙ none) in
    omega (arith, place, len)

drop_replicated : (k n : ℕ) → drop k (zeros n) ≡ zeros (n - k)
drop_replicated zero n = let e : n ≡ n - 0 = omega arith in ap zeros e
drop_replicated (suc k) zero = let e : 0 ≡ 0 - suc k = omega arith in ap zeros e
drop_replicated (suc k) (suc n) = let e : n - k ≡ suc n - suc k = omega arith in drop_replicated k n ∙ ap zeros e

-- a block that begins with a text, and holds 0 behind it
pub block_of_rest : (rest : List ℕ) → length rest < 64
    → marks_of (take 64 (rest ++ drop (length rest) (zeros 64))) ≡ marks_of rest
block_of_rest rest l =
    let long = length-append rest (drop (length rest) (zeros 64)) in
    let behind = length-drop (length rest) (zeros 64) in
    ap marks_of (take_all 64 (rest ++ drop (length rest) (zeros 64)) (omega (arith, long, behind)))
    ∙ ap (λ t. marks_of (rest ++ t)) (drop_replicated (length rest) 64)
    ∙ marks_padded rest (64 - length rest)
