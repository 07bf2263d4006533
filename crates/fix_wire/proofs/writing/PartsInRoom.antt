-- Parts written one behind the other into room.
use Rattle.std.proofs.Common.{◌≡◌, ℕ, zero, suc, ◌+◌, ◌-◌, ◌/◌, ◌%◌, ◌<◌, ◌≤◌, sum, replicate, Bool, true, false, cond, List, [], ◌∷◌, ◌++◌, length, take, drop, set, refl, sym, ap, ◌∙◌, arith, length-append, append_assoc, decimal}
use Rattle.std.proofs.lemmas.List.{take_at, drop_at, drop-append-le, take-replicate, take_all, take-take, length-take-le, set_at}
use Rattle.std.specs.List.{fold}
use Rattle.std.proofs.lemmas.Slice.{take-put_mid}
use Rattle.std.proofs.Math.Seq.{take-add}
use borrow.Rule.Slice.PartMut.{put_mid}
use Rattle.fix_wire_frames.specs.Frames.{begin_text}
use Rattle.fix_wire.specs.code.Layout.{summed_text}
use Rattle.fix_wire_values.proofs.LastTwoDigits.{three_digits}

-- where a part ends
pub ends : (r r0 x : List ℕ) (end at : ℕ) → take end r ≡ take at r0 ++ x → end ≤ length r → at ≤ length r0
    → end ≡ at + length x
ends r r0 x end at e l m =
    sym (length-take-le end r l) ∙ ap length e ∙ length-append (take at r0) x
    ∙ ap (λ n. n + length x) (length-take-le at r0 m)

-- three parts, one behind the other
pub three_parts : (o o1 o2 o3 a b c : List ℕ) → o1 ≡ o ++ a → o2 ≡ o1 ++ b → o3 ≡ o2 ++ c → o3 ≡ o ++ (a ++ (b ++ c))
three_parts o o1 o2 o3 a b c e1 e2 e3 =
    e3 ∙ ap (λ t. t ++ c) (e2 ∙ ap (λ t. t ++ b) e1 ∙ append_assoc o a b) ∙ append_assoc o (a ++ b) c
    ∙ ap (λ t. o ++ t) (append_assoc a b c)

-- what stands before stays
pub front_same : (r o x : List ℕ) (start end : ℕ) → take end r ≡ o ++ x → length o ≡ start → start ≤ end
    → take start r ≡ o
front_same r o x start end e n l = sym (take-take start end r l) ∙ ap (take start) e ∙ take_at o x start n

-- room made behind a list leaves the list at the front
pub front_stays : (ok : Bool) (o r fill : List ℕ) (start n : ℕ) → r ≡ cond ok (take n o ++ fill) o → start ≡ length o
    → start ≤ n → take start r ≡ o
front_stays true o r fill start n e s l = ap (take start) (e ∙ ap (λ t. t ++ fill) (take_all n o (omega (arith, s, l))))
    ∙ take_at o fill start (sym s)
front_stays false o r fill start n e s l = ap (take start) e ∙ take_all start o (omega (arith, s))

-- what was written to all of a list's places is what it has
pub written_back : (r x : List ℕ) (k end : ℕ) → length r ≡ k → take end (take k (r ++ drop (length r) x)) ≡ take end r
written_back r x k end e = ap (take end) (take_at r (drop (length r) x) k e)

-- of a text that is copied with what stands behind it, the front
pub front_copied : (at k n : ℕ) (room new : List ℕ) → at ≤ length room → n ≤ length new
    → take (at + n) (put_mid at k room new) ≡ take at room ++ take n new
front_copied at k n room new within m =
    let o = take at room in
    let size : length o ≡ at = length-take-le at room within in
    sym (take-take (at + n) (at + length new) (put_mid at k room new) (omega (arith, m)))
    ∙ ap (take (at + n)) (take-put_mid at k room new (at + length new) refl within)
    ∙ take-add at n (o ++ new)
    ∙ ap (λ t. t ++ take n (drop at (o ++ new))) (take_at o new at size)
    ∙ ap (λ t. o ++ take n t) (drop_at o new at size)

-- ---- three bytes set

take_set : (n : ℕ) (xs : List ℕ) (i y : ℕ) → take n (set xs i y) ≡ set (take n xs) i y
take_set zero xs i y = refl
take_set (suc n) [] i y = refl
take_set (suc n) (x ∷ xs) zero y = refl
take_set (suc n) (x ∷ xs) (suc i) y = ap (λ t. x ∷ t) (take_set n xs i y)

-- three bytes set, from a place on
abbrev pub set_three : List ℕ → ℕ → ℕ → ℕ → ℕ → List ℕ
set_three r k a b c = set (set (set r k a) (k + 1) b) (k + 2) c

take_three : (end : ℕ) (r : List ℕ) (k a b c : ℕ) → take end (set_three r k a b c) ≡ set_three (take end r) k a b c
take_three end r k a b c =
    take_set end (set (set r k a) (k + 1) b) (k + 2) c
    ∙ ap (λ t. set t (k + 2) c) (take_set end (set r k a) (k + 1) b ∙ ap (λ t. set t (k + 1) b) (take_set end r k a))

three_at : (p rest : List ℕ) (x y z a b c k : ℕ) → length p ≡ k → set_three (p ++ x ∷ y ∷ z ∷ rest) k a b c ≡ p
    ++ a ∷ b ∷ c ∷ rest
three_at p rest x y z a b c k e =
    let one : length (p ++ a ∷ []) ≡ k + 1 = length-append p (a ∷ []) ∙ omega (arith, e) in
    let two : length (p ++ a ∷ b ∷ []) ≡ k + 2 = length-append p (a ∷ b ∷ []) ∙ omega (arith, e) in
    let first = set_at p x (y ∷ z ∷ rest) a k e in
    let second = ap (λ t. set t (k + 1) b) (first ∙ sym (append_assoc p (a ∷ []) (y ∷ z ∷ rest)))
    ∙ set_at (p ++ a ∷ []) y (z ∷ rest) b (k + 1) one ∙ append_assoc p (a ∷ []) (b ∷ z ∷ rest) in
    ap (λ t. set t (k + 2) c) (second ∙ sym (append_assoc p (a ∷ b ∷ []) (z ∷ rest)))
    ∙ set_at (p ++ a ∷ b ∷ []) z rest c (k + 2) two ∙ append_assoc p (a ∷ b ∷ []) (c ∷ rest)

-- BeginString, and a BodyLength whose three digits are still to be set
abbrev pub open_text : List ℕ
open_text = begin_text ++ (48 ∷ 48 ∷ 48 ∷ 1 ∷ [])

-- a length of three digits, set once its body stands
pub counted : (o r2 r3 body : List ℕ) (start end n : ℕ) → take end r2 ≡ o ++ (begin_text ++ (48 ∷ 48 ∷ 48 ∷ 1 ∷ body))
    → length o ≡ start →
    r3 ≡ set_three r2 (start + 12) (48 + n / 100) (48 + n / 10 % 10) (48 + n % 10) → n ≡ length body → 100 ≤ n
    → n < 1000 →
    take end r3 ≡ o ++ summed_text body
counted o r2 r3 body start end n e s f len low high =
    let p : length (o ++ begin_text) ≡ start + 12 = length-append o begin_text ∙ omega (arith, s) in
    let digits : decimal (length body) ≡ (48 + n / 100) ∷ (48 + n / 10 % 10) ∷ (48 + n % 10) ∷ [] = ap decimal (sym len)
    ∙ three_digits n low high in
    ap (take end) f
    ∙ take_three end r2 (start + 12) (48 + n / 100) (48 + n / 10 % 10) (48 + n % 10)
    ∙ ap (λ t. set_three t (start + 12) (48 + n / 100) (48 + n / 10 % 10) (48 + n % 10))
    (e ∙ sym (append_assoc o begin_text (48 ∷ 48 ∷ 48 ∷ 1 ∷ body)))
    ∙ three_at (o ++ begin_text) (1 ∷ body) 48 48 48 (48 + n / 100) (48 + n / 10 % 10) (48 + n % 10) (start + 12) p
    ∙ append_assoc o begin_text ((48 + n / 100) ∷ (48 + n / 10 % 10) ∷ (48 + n % 10) ∷ 1 ∷ body)
    ∙ ap (λ t. o ++ (begin_text ++ (t ++ 1 ∷ body))) (sym digits)

-- a body behind its length
pub behind : (o o1 o2 body : List ℕ) (n : ℕ) → o2 ≡ o1 ++ body → o1 ≡ o ++ (begin_text ++ (decimal n ++ 1 ∷ []))
    → n ≡ length body → o2 ≡ o ++ summed_text body
behind o o1 o2 body n e f len =
    e ∙ ap (λ t. t ++ body) f ∙ append_assoc o (begin_text ++ (decimal n ++ 1 ∷ [])) body
    ∙ ap (λ t. o ++ (begin_text ++ t)) (append_assoc (decimal n) (1 ∷ []) body)
    ∙ ap (λ k. o ++ (begin_text ++ (decimal k ++ 1 ∷ body))) len

-- ---- zeros behind a text add nothing to its sum

sum_from_append : (a : ℕ) (xs ys : List ℕ) → fold ◌+◌ a (xs ++ ys) ≡ fold ◌+◌ (fold ◌+◌ a xs) ys
sum_from_append a [] ys = refl
sum_from_append a (x ∷ xs) ys = sum_from_append (a + x) xs ys

sum_from_zeros : (a n : ℕ) → fold ◌+◌ a (replicate n 0) ≡ a
sum_from_zeros a zero = refl
sum_from_zeros a (suc n) = ap (λ b. fold ◌+◌ b (replicate n 0)) (omega arith) ∙ sum_from_zeros a n

-- a text in room, with k zeros behind it, and a part that begins in the text and ends among the zeros
pub sum_padded : (r o : List ℕ) (start end k n : ℕ) → take (end + k) r ≡ take end o ++ replicate k 0 → end ≤ length o
    → start ≤ end →
    end ≤ start + n → start + n ≤ end + k → sum (drop start (take (start + n) r)) ≡ sum (drop start (take end o))
sum_padded r o start end k n e within before low high =
    let text = take end o in
    let size : length text ≡ end = length-take-le end o within in
    let m = start + n - end in
    let reach : start + n ≡ end + m = omega (arith, low) in
    let front : take (start + n) r ≡ text ++ replicate m 0 =
    sym (take-take (start + n) (end + k) r high)
    ∙ ap (take (start + n)) e
    ∙ ap (λ j. take j (text ++ replicate k 0)) reach
    ∙ take-add end m (text ++ replicate k 0)
    ∙ ap (λ t. t ++ take m (drop end (text ++ replicate k 0))) (take_at text (replicate k 0) end size)
    ∙ ap (λ t. text ++ take m t) (drop_at text (replicate k 0) end size)
    ∙ ap (λ t. text ++ t) (take-replicate m k 0 (omega (arith, high, low))) in
    ap (λ t. sum (drop start t)) front
    ∙ ap sum (drop-append-le start text (replicate m 0) (omega (arith, size, before)))
    ∙ sum_from_append 0 (drop start text) (replicate m 0)
    ∙ sum_from_zeros (sum (drop start text)) m
