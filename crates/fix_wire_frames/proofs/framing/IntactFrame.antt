-- A claim that is kept, as the code tests it.
use Rattle.std.proofs.Common.{◌≡◌, ℕ, zero, suc, ◌+◌, ◌≤◌, ◌%◌, Bool, true, false, ◌&&◌, nat_eq, eqb, leb, List, [], ◌∷◌, ◌++◌, length, take, drop, sum, refl, sym, ap, ◌∙◌, arith}
use Rattle.std.specs.List.{starts_with}
use Rattle.std.specs.Str.{bytes_eq}
use Rattle.std.proofs.lemmas.Bool.Decides.{nat_tests}
use Rattle.fix_wire_frames.specs.declared.frame.FrameHeader.{FrameHeader}
use Rattle.fix_wire_frames.specs.Frames.{is_intact, body_at, checksum_field, frame_length}
use Rattle.fix_wire_frames.specs.code.Frames.{is_intact_by_size, is_body}
use Rattle.fix_wire_frames.proofs.texts.WordAtTheFront.{eqb_swap}

-- ---- its CheckSum as what the text goes on with, and as its last bytes

same_test : (x y l k e : Bool) → x ≡ y → l ≡ k → (x && (l && e)) ≡ (k && (y && e))
same_test true true true true e p q = refl
same_test true true false false e p q = refl
same_test false false l true e p q = refl
same_test false false l false e p q = refl
same_test true false l k e p q = cc
same_test false true l k e p q = cc
same_test true true true false e p q = cc
same_test true true false true e p q = cc

one_more : (a b : ℕ) → leb a b ≡ leb (suc a) (suc b)
one_more a b = grind (arith, nat_tests)

-- a text begins with another, which is as many of its bytes
at_front : (c text : List ℕ) → starts_with nat_eq text c ≡
    (leb (length c) (length text) && bytes_eq (take (length c) text) c)
at_front [] text = let all : leb 0 (length text) ≡ true = grind (arith, nat_tests) in sym (ap (λ v. v && true) all)
at_front (p ∷ ps) [] = let none : leb (suc (length ps)) 0 ≡ false = grind (arith, nat_tests) in
    sym (ap (λ v. v && false) none)
at_front (p ∷ ps) (b ∷ bs) =
    ap (λ v. eqb p b && v) (at_front ps bs)
    ∙ same_test (eqb p b) (eqb b p) (leb (length ps) (length bs)) (leb (suc (length ps)) (suc (length bs)))
    (bytes_eq (take (length ps) bs) ps) (eqb_swap p b) (one_more (length ps) (length bs))

-- it goes on with another behind its first bytes
behind_front : (x : ℕ) (xs : List ℕ) (n : ℕ) (text : List ℕ)
    → starts_with nat_eq text (take n text ++ x ∷ xs) ≡
    (leb (n + suc (length xs)) (length text) && bytes_eq (take (suc (length xs)) (drop n text)) (x ∷ xs))
behind_front x xs zero text =
    let same : suc (length xs) ≡ 0 + suc (length xs) = omega arith in
    at_front (x ∷ xs) text ∙ ap (λ k. leb k (length text) && bytes_eq (take (suc (length xs)) text) (x ∷ xs)) same
behind_front x xs (suc n) [] =
    let none : leb (suc n + suc (length xs)) 0 ≡ false = grind (arith, nat_tests) in
    sym (ap (λ v. v && bytes_eq (take (suc (length xs)) []) (x ∷ xs)) none)
behind_front x xs (suc n) (b ∷ bs) =
    let self : eqb b b ≡ true = grind (arith, nat_tests) in
    let next : leb (n + suc (length xs)) (length bs) ≡ leb (suc n + suc (length xs)) (suc (length bs)) =
    grind (arith, nat_tests) in
    ap (λ v. v && starts_with nat_eq bs (take n bs ++ x ∷ xs)) self ∙ behind_front x xs n bs
    ∙ ap (λ v. v && bytes_eq (take (suc (length xs)) (drop n bs)) (x ∷ xs)) next

and_moves : (x l y : Bool) → (x && (l && y)) ≡ (l && x && y)
and_moves true true y = refl
and_moves true false y = refl
and_moves false true y = refl
and_moves false false y = refl

pub intact_is : (text : List ℕ) (h : FrameHeader) → is_intact text h ≡ is_intact_by_size text h
intact_is text h =
    let n = h.body_start + h.body_length in
    let check = checksum_field (sum (take n text) % 256) in
    ap (λ v. is_body (body_at text h) && v) (behind_front 49 (drop 1 check) n text)
    ∙ and_moves (is_body (body_at text h)) (leb (frame_length h) (length text)) (bytes_eq (take 7 (drop n text)) check)

-- ---- the code's tests

and_of : (x y z : Bool) (b : Bool) → x ≡ true → z ≡ true → b ≡ y → b ≡ (x && y && z)
and_of true y true b p q e = e ∙ and_true_right y
  where
    and_true_right : (y : Bool) → y ≡ (y && true)
    and_true_right true = refl
    and_true_right false = refl
and_of true y false b p q e = cc
and_of false y z b p q e = cc

pub intact_true : (text : List ℕ) (header : FrameHeader) (n k ck : ℕ) (b : Bool) → frame_length header ≤ length text
    → n ≡ 7 → k ≡ header.body_length → ck ≡ sum (take (header.body_start + header.body_length) text) % 256 →
    true ≡ bytes_eq (take n (drop (header.body_start + header.body_length) text)) (checksum_field ck)
    → b ≡ is_body (take k (drop header.body_start text)) → b ≡ is_intact text header
intact_true text header n k ck b fits seven size sum_is t e =
    let x : leb (frame_length header) (length text) ≡ true = grind (arith, nat_tests) in
    let z = ap (λ c. bytes_eq (take n (drop (header.body_start + header.body_length) text)) (checksum_field c)) sum_is
    in
    let z2 = ap (λ m. bytes_eq (take m (drop (header.body_start + header.body_length) text))
    (checksum_field (sum (take (header.body_start + header.body_length) text) % 256))) seven in
    let sized : b ≡ is_intact_by_size text header = and_of _ _ _ b x (sym (t ∙ z ∙ z2))
    (e ∙ ap (λ m. is_body (take m (drop header.body_start text))) size) in
    sized ∙ sym (intact_is text header)

and_last : (x y z : Bool) → z ≡ false → false ≡ (x && y && z)
and_last true true z e = sym e
and_last true false z e = refl
and_last false y z e = refl

-- the CheckSum is another
pub intact_false : (text : List ℕ) (header : FrameHeader) (n ck : ℕ) → n ≡ 7
    → ck ≡ sum (take (header.body_start + header.body_length) text) % 256 →
    false ≡ bytes_eq (take n (drop (header.body_start + header.body_length) text)) (checksum_field ck)
    → false ≡ is_intact text header
intact_false text header n ck seven sum_is t =
    let z = ap (λ c. bytes_eq (take n (drop (header.body_start + header.body_length) text)) (checksum_field c)) sum_is
    in
    let z2 = ap (λ m. bytes_eq (take m (drop (header.body_start + header.body_length) text))
    (checksum_field (sum (take (header.body_start + header.body_length) text) % 256))) seven in
    let sized : false ≡ is_intact_by_size text header =
    and_last (leb (frame_length header) (length text)) (is_body (body_at text header)) _ (sym (t ∙ z ∙ z2)) in
    sized ∙ sym (intact_is text header)
