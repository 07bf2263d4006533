-- The bytes of pieces.
use Rattle.std.proofs.Common.{◌≡◌, ◌∙◌, sym, ap, refl, zero, suc, get_or, length, Bool, true, false, ℕ, List, [], ◌∷◌, ◌++◌, append-nil, append_assoc, take, arith, ◌<◌, ◌≤◌, nat_lt, ◌+◌, ◌*◌, Result, Ok, Err, OnOk, IfErr}
use Rattle.rtrb.specs.declared.errors.PushError.{PushError}
use Rattle.rtrb.specs.declared.errors.PushError.TheVariants.{Full}
use Rattle.std.specs.Simd.{first_chunks}
use Rattle.std.proofs.lemmas.Bool.Decides.{nat_tests}
use Rattle.std.proofs.lemmas.List.{take_all}
use Rattle.gate_link_stages.specs.declared.post.PostedBytes.{PostedBytes}
use Rattle.gate_link_stages.specs.declared.post.TheConstants.{POSTED_BYTES}
use Rattle.gate_link_stages.specs.Marks.{ends}
use Rattle.gate_link_stages.specs.Pieces.{is_mark, bytes_of_piece, bytes_in}
use Rattle.gate_link_stages.specs.Posting.{Finishes}
use Rattle.gate_link_stages.proofs.Marks.{ends_more, ends_both, ends_mark, all_taken}

pub bytes-append : (xs ys : List PostedBytes) → bytes_in (xs ++ ys) ≡ bytes_in xs ++ bytes_in ys
bytes-append [] ys = refl
bytes-append (p ∷ ps) ys = ap (λ t. bytes_of_piece p ++ t) (bytes-append ps ys)
    ∙ sym (append_assoc (bytes_of_piece p) (bytes_in ps) (bytes_in ys))

pub bytes_one : (xs : List PostedBytes) (p : PostedBytes) → bytes_in (xs ++ p ∷ []) ≡ bytes_in xs ++ bytes_of_piece p
bytes_one xs p = bytes-append xs (p ∷ []) ∙ ap (λ t. bytes_in xs ++ t) (append-nil (bytes_of_piece p))

-- a piece more
pub piece_more : (xs ys : List PostedBytes) (p : PostedBytes) (bytes : List ℕ) (b : Bool) → ends is_mark xs b ≡ true
    → b ≡ false → ys ≡ xs ++ p ∷ [] → is_mark p ≡ false → bytes_of_piece p ≡ bytes
    → (ends is_mark ys b ≡ true) × (bytes_in ys ≡ bytes_in xs ++ bytes)
piece_more xs ys p bytes true was not all plain is = absurd (cc not)
piece_more xs ys p bytes false was not all plain is =
    rw all (ends_more is_mark xs p was plain, bytes_one xs p ∙ ap (λ t. bytes_in xs ++ t) is)

-- several pieces more
pub pieces_more : (xs ys more : List PostedBytes) (bytes : List ℕ) (b : Bool) → ends is_mark xs b ≡ true → b ≡ false
    → ys ≡ xs ++ more → ends is_mark more false ≡ true → bytes_in more ≡ bytes
    → (ends is_mark ys b ≡ true) × (bytes_in ys ≡ bytes_in xs ++ bytes)
pieces_more xs ys more bytes true was not all plain is = absurd (cc not)
pieces_more xs ys more bytes false was not all plain is =
    rw all (ends_both is_mark xs more was plain, bytes-append xs more ∙ ap (λ t. bytes_in xs ++ t) is)

mark_has_none : (p : PostedBytes) → is_mark p ≡ true → bytes_of_piece p ≡ []
mark_has_none p h = rw h refl

-- the end mark
pub mark_more : (xs ys : List PostedBytes) (p : PostedBytes) (b : Bool) → ends is_mark xs b ≡ true → b ≡ false → ys ≡ xs
    ++ p ∷ [] → is_mark p ≡ true
    → (ends is_mark ys true ≡ true) × (bytes_in ys ≡ bytes_in xs)
mark_more xs ys p true was not all mark = absurd (cc not)
mark_more xs ys p false was not all mark = rw all (
  ends_mark is_mark xs p was mark,
  bytes_one xs p
      ∙ (ap (λ t. bytes_in xs ++ t) (mark_has_none p mark) ∙ append-nil (bytes_in xs)),
)

-- what both ends say in one thread
pub finishes : (xs known ys : List PostedBytes) (wrote : List ℕ) (over ended : Bool) → ends is_mark xs over ≡ true
    → ends is_mark ys ended ≡ true → wrote ≡ bytes_in xs → xs ++ known ≡ ys → Finishes over ended (bytes_in ys) wrote
finishes xs known ys wrote true ended was gave same all =
    let taken = all_taken is_mark xs known ys ended was gave all in
    (taken.0, same ∙ ap bytes_in taken.1)
finishes xs known ys wrote false ended was gave same all =
    (bytes_in known, ap (λ t. t ++ bytes_in known) same ∙ (sym (bytes-append xs known) ∙ ap bytes_in all))

pub is_above : (n : ℕ) → POSTED_BYTES < n → nat_lt POSTED_BYTES n ≡ true
is_above n h = grind (arith, nat_tests)

pub is_within : (n : ℕ) → n ≤ POSTED_BYTES → nat_lt POSTED_BYTES n ≡ false
is_within n h = grind (arith, nat_tests)

-- the bytes of a piece that is no mark
pub plain_bytes : (p : PostedBytes) → is_mark p ≡ false → bytes_of_piece p ≡ take p.length p.bytes
plain_bytes p h = rw h refl

-- the first of some chunks is a front
first_chunk : (n k : ℕ) (xs chunk : List ℕ) → 0 < length (first_chunks n k xs)
    → chunk ≡ get_or (first_chunks n k xs) 0 chunk → chunk ≡ take n xs
first_chunk n zero xs chunk some is = absurd (omega (arith, some))
first_chunk n (suc k) xs chunk some is = is

-- a chunk of these bytes that is as long as a piece is all of them
pub whole_piece : (n k : ℕ) (bytes chunk : List ℕ) → n ≡ POSTED_BYTES → length bytes ≤ POSTED_BYTES
    → 0 < length (first_chunks n k bytes) → chunk ≡ get_or (first_chunks n k bytes) 0 chunk
    → bytes_of_piece (record { length = length bytes; bytes = chunk }) ≡ bytes
whole_piece n k bytes chunk size few some is =
    let all : chunk ≡ bytes = first_chunk n k bytes chunk some is ∙ take_all n bytes (omega (arith, size, few)) in
    plain_bytes (record { length = length bytes; bytes = chunk }) (is_within (length bytes) few)
    ∙ (ap (λ t. take (length bytes) t) all ∙ take_all (length bytes) bytes (omega arith))

-- after a push, whatever came of it
pub pushed_or_not : (r : Result (Unit {0}) (PushError PostedBytes)) (xs ys : List PostedBytes) (p : PostedBytes)
    (b : Bool) (k m n : ℕ) → ends is_mark xs b ≡ true → b ≡ false → is_mark p ≡ false
    → OnOk r ((ys ≡ xs ++ p ∷ []) × (k ≤ m + 1)) → IfErr r (λ e. (e ≡ Full p) × (ys ≡ xs) × (n ≡ 0))
    → ends is_mark ys b ≡ true
pushed_or_not (Ok u) xs ys p b k m n was not plain ok err =
    (piece_more xs ys p (bytes_of_piece p) b was not ok.0 plain refl).0
pushed_or_not (Err e) xs ys p b k m n was not plain ok err = rw err.1 was

room_by_test : (b : Bool) (free count n : ℕ) → nat_lt (free * POSTED_BYTES) n ≡ b
    → (n ≤ free * POSTED_BYTES → count ≤ free) → free < count → free * POSTED_BYTES < n
room_by_test true free count n e room lt = grind (arith, nat_tests, e)
room_by_test false free count n e room lt =
    let within : n ≤ free * POSTED_BYTES = grind (arith, nat_tests, e) in
    let few = room within in
    absurd (omega (arith, few, lt))

-- fewer free slots than pieces have less room than the bytes take
pub too_little_room : (free count m n : ℕ) → free < m → m ≤ count → (n ≤ free * POSTED_BYTES → count ≤ free)
    → free * POSTED_BYTES < n
too_little_room free count m n lt le room =
    room_by_test (nat_lt (free * POSTED_BYTES) n) free count n refl room (omega (arith, lt, le))

-- after a push of several, whatever came of it
pub pieces_or_not : {E : Type 0} (r : Result (Unit {0}) E) (F : E → Type 0) (K : Type 0) (xs ys more : List PostedBytes)
    (b : Bool) → ends is_mark xs b ≡ true → b ≡ false → ends is_mark more false ≡ true
    → OnOk r ((ys ≡ xs ++ more) × K) → IfErr r F → ((e : E) → F e → ys ≡ xs) → ends is_mark ys b ≡ true
pieces_or_not (Ok u) F K xs ys more b was not plain ok err same =
    (pieces_more xs ys more (bytes_in more) b was not ok.0 plain refl).0
pieces_or_not (Err e) F K xs ys more b was not plain ok err same = rw (same e err) was
