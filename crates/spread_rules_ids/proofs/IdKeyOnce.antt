-- the key of an id tells session and bytes
use Rattle.std.proofs.Common.{◌≡◌, ℕ, zero, suc, ◌+◌, ◌-◌, ◌<◌, ◌≤◌, List, [], ◌∷◌, ◌++◌, length, get_or, take, drop, replicate, refl, sym, ap, ◌∙◌, arith, length-append, length-take, length-drop}
use Rattle.std.specs.Int.{w64, from_be_bytes, to_be_bytes}
use Rattle.std.proofs.lemmas.Nat.{be_bytes_8}
use Rattle.std.proofs.lemmas.List.{length-replicate, take_at, take_all, take-append-drop, drop-drop}
use Rattle.spread_rules_ids.specs.declared.id_key.IdKey.{IdKey}
use Rattle.spread_rules_ids.specs.IdKeys.{word_of, key_of, IsIdBytes}

-- the id with zeros behind it
padded : List ℕ → List ℕ
padded id = id ++ replicate (32 - length id) 0

word_is : (id : List ℕ) (at : ℕ) → word_of id at ≡ from_be_bytes w64 (take 8 (drop at (padded id)))
unfolding word_of padded
word_is id at = refl

padded_length : (id : List ℕ) → length id ≤ 32 → length (padded id) ≡ 32
unfolding padded
padded_length id most = omega (
  arith,
  length-append id (replicate (32 - length id) 0),
  length-replicate {A = ℕ} (32 - length id) 0,
)

zeros_small : (n i : ℕ) → get_or (replicate n 0) i 0 < 256
zeros_small zero i = omega arith
zeros_small (suc n) zero = omega arith
zeros_small (suc n) (suc i) = zeros_small n i

append_small : (a b : List ℕ) → ((i : ℕ) → get_or a i 0 < 256) → ((i : ℕ) → get_or b i 0 < 256) → (i : ℕ)
    → get_or (a ++ b) i 0 < 256
append_small [] b h k i = k i
append_small (x ∷ a) b h k zero = h 0
append_small (x ∷ a) b h k (suc i) = append_small a b (λ j. h (suc j)) k i

padded_small : (id : List ℕ) → ((i : ℕ) → get_or id i 0 < 256) → (i : ℕ) → get_or (padded id) i 0 < 256
unfolding padded
padded_small id small = append_small id (replicate (32 - length id) 0) small (zeros_small (32 - length id))

drop_small : (a : List ℕ) (n : ℕ) → ((i : ℕ) → get_or a i 0 < 256) → (i : ℕ) → get_or (drop n a) i 0 < 256
drop_small a zero h i = h i
drop_small [] (suc n) h i = omega arith
drop_small (x ∷ a) (suc n) h i = drop_small a n (λ j. h (suc j)) i

take_small : (a : List ℕ) (n : ℕ) → ((i : ℕ) → get_or a i 0 < 256) → (i : ℕ) → get_or (take n a) i 0 < 256
take_small a zero h i = omega arith
take_small [] (suc n) h i = omega arith
take_small (x ∷ a) (suc n) h zero = h 0
take_small (x ∷ a) (suc n) h (suc i) = take_small a n (λ j. h (suc j)) i

-- eight bytes come back from their number
eight : (id : List ℕ) (at : ℕ) → IsIdBytes id → at + 8 ≤ 32
    → to_be_bytes w64 (word_of id at) ≡ take 8 (drop at (padded id))
eight id at b fits = be_bytes_8 (take 8 (drop at (padded id))) (word_of id at)
    (omega (arith, length-take 8 (drop at (padded id)), length-drop at (padded id), padded_length id b.most))
    (take_small (drop at (padded id)) 8 (drop_small (padded id) at (padded_small id b.small)))
    (word_is id at)

same_eight : (a b : List ℕ) (at : ℕ) → IsIdBytes a → IsIdBytes b → at + 8 ≤ 32 → word_of a at ≡ word_of b at
    → take 8 (drop at (padded a)) ≡ take 8 (drop at (padded b))
same_eight a b at p q fits e = sym (eight a at p fits) ∙ ap (to_be_bytes w64) e ∙ eight b at q fits

-- a list of 32 is its four parts
parts : (xs : List ℕ) → length xs ≡ 32 → xs ≡ take 8 (drop 0 xs)
    ++ (take 8 (drop 8 xs) ++ (take 8 (drop 16 xs) ++ take 8 (drop 24 xs)))
parts xs l =
    let a = sym (take-append-drop 8 xs) in
    let b = sym (take-append-drop 8 (drop 8 xs)) ∙ ap (λ (ys : List ℕ). take 8 (drop 8 xs) ++ ys) (drop-drop 8 8 xs) in
    let d = sym (take-append-drop 8 (drop 16 xs)) ∙ ap (λ (ys : List ℕ). take 8 (drop 16 xs) ++ ys) (drop-drop 8 16 xs)
    in
    let e : take 8 (drop 24 xs) ≡ drop 24 xs = take_all 8 (drop 24 xs) (omega (arith, length-drop 24 xs)) in
    cc

padded_text : (id : List ℕ) → take (length id) (padded id) ≡ id
unfolding padded
padded_text id = take_at id (replicate (32 - length id) 0) (length id) refl

pub one_key : (s t : ℕ) (a b : List ℕ) → IsIdBytes a → IsIdBytes b → key_of s a ≡ key_of t b → (s ≡ t) × (a ≡ b)
one_key s t a b p q e =
    let size : length a ≡ length b = ap (λ (k : IdKey). k.size) e in
    let first = same_eight a b 0 p q (omega arith) (ap (λ (k : IdKey). k.first) e) in
    let second = same_eight a b 8 p q (omega arith) (ap (λ (k : IdKey). k.second) e) in
    let third = same_eight a b 16 p q (omega arith) (ap (λ (k : IdKey). k.third) e) in
    let fourth = same_eight a b 24 p q (omega arith) (ap (λ (k : IdKey). k.fourth) e) in
    let x = parts (padded a) (padded_length a p.most) in
    let y = parts (padded b) (padded_length b q.most) in
    let same : padded a ≡ padded b = cc in
    let k = padded_text a in
    let l = padded_text b in
    (ap (λ (k : IdKey). k.session) e, cc)
