-- What stands at the front of a text stays what it is when the text goes on.
use Rattle.std.proofs.Common.{◌≡◌, ℕ, zero, suc, ◌+◌, ◌-◌, ◌<◌, ◌≤◌, Bool, true, false, cond, ◌&&◌, ◌||◌, not, eqb, ltb, leb, List, [], ◌∷◌, ◌++◌, length, take, drop, Option, Some, None, option_map, option_and_then, refl, sym, ap, subst, ◌∙◌, arith, ◌⊎◌, inl, inr, length-append}
use Rattle.std.proofs.Math.Bool.{and-false}
use Rattle.std.specs.Bool.{then_some}
use Rattle.std.specs.Char.{is_ascii_digit}
use Rattle.std.specs.List.{position_or_len, list_all}
use Rattle.std.proofs.lemmas.List.{take-append-le, drop-append-le, length-take-le, length-drop, take-append-drop}
use Rattle.std.proofs.lemmas.List.Folds.{list_all-append, list_all_at}
use Rattle.std.proofs.lemmas.List.Sums.{passes_at_first}
use Rattle.std.proofs.lemmas.Option.{none-some, option_and_then_some, cond_some, same_Some}
use Rattle.std.proofs.lemmas.Bool.{false≢true, cases_lt, eqb-true, leb-true, ltb-true, or_from, or_parts, and_parts}
use Rattle.std.proofs.lemmas.Bool.Decides.{nat_tests}
use Rattle.fix_wire_frames.specs.declared.frame.FrameHeader.{FrameHeader}
use Rattle.fix_wire_frames.specs.code.Texts.{stripped, is_cut_short, is_soh}
use Rattle.fix_wire_values.specs.Digits.{number_of}
use Rattle.fix_wire_frames.specs.Frames.{begin_text, header, is_body_length, is_intact, body_at, frame_length, frame_at, may_begin}
use Rattle.fix_wire_frames.specs.code.Frames.{header_after, header_with, is_length_open, is_unfinished, is_intact_by_size, is_body, intact_length}
use Rattle.fix_wire_frames.proofs.fields.RowOfFields.{place_within}
use Rattle.fix_wire_frames.proofs.texts.HeaderAtTheFront.{header_is, front_is}
use Rattle.fix_wire_frames.proofs.framing.IntactFrame.{intact_is}

pub some_when : {A : Type 0} (b : Bool) (x y : A) → then_some b x ≡ Some y → (b ≡ true) × (x ≡ y)
some_when true x y e = (refl, same_Some x y e)
some_when false x y e = cc

-- a word that stands stays
pub prefix_stays : (word text more rest : List ℕ) → stripped word text ≡ Some rest
    → stripped word (text ++ more) ≡ Some (rest ++ more)
prefix_stays [] text more rest e = ap (option_map (λ r. r ++ more)) e
prefix_stays (p ∷ ps) [] more rest e = cc
prefix_stays (p ∷ ps) (b ∷ bs) more rest e = by_test (λ h. prefix_stays ps bs more rest h) (eqb p b) e
  where
    by_test : (stripped ps bs ≡ Some rest → stripped ps (bs ++ more) ≡ Some (rest ++ more)) → (v : Bool)
        → cond v (stripped ps bs) None ≡ Some rest → cond v (stripped ps (bs ++ more)) None ≡ Some (rest ++ more)
    by_test ih true e = ih e
    by_test ih false e = cc

-- where a word stands, it isn't cut short
pub whole_not_short : (word text rest : List ℕ) → stripped word text ≡ Some rest → is_cut_short word text ≡ false
whole_not_short [] text rest e = refl
whole_not_short (p ∷ ps) [] rest e = cc
whole_not_short (p ∷ ps) (b ∷ bs) rest e = by_test (λ h. whole_not_short ps bs rest h) (eqb p b) e
  where
    by_test : (stripped ps bs ≡ Some rest → is_cut_short ps bs ≡ false) → (v : Bool)
        → cond v (stripped ps bs) None ≡ Some rest → (v && is_cut_short ps bs) ≡ false
    by_test ih true e = ih e
    by_test ih false e = refl

-- where it neither stands nor is cut short, it never will
pub other_stays : (word text more : List ℕ) → stripped word text ≡ None → is_cut_short word text ≡ false
    → (stripped word (text ++ more) ≡ None) × (is_cut_short word (text ++ more) ≡ false)
other_stays [] text more e f = cc
other_stays (p ∷ ps) [] more e f = cc
other_stays (p ∷ ps) (b ∷ bs) more e f = by_test (λ g h. other_stays ps bs more g h) (eqb p b) e f
  where
    by_test : (stripped ps bs ≡ None → is_cut_short ps bs ≡ false → (stripped ps (bs ++ more) ≡ None)
        × (is_cut_short ps (bs ++ more) ≡ false)) → (v : Bool) → cond v (stripped ps bs) None ≡ None
        → (v && is_cut_short ps bs) ≡ false → (cond v (stripped ps (bs ++ more)) None ≡ None)
        × ((v && is_cut_short ps (bs ++ more)) ≡ false)
    by_test ih true e f = ih e f
    by_test ih false e f = (refl, refl)

-- a place that is found stays
pub place_stays : (p : ℕ → Bool) (xs more : List ℕ) → position_or_len p xs < length xs
    → position_or_len p (xs ++ more) ≡ position_or_len p xs
place_stays p [] more l = absurd (omega arith)
place_stays p (x ∷ xs) more l = by_test (λ h. place_stays p xs more h) (p x) l
  where
    by_test : (position_or_len p xs < length xs → position_or_len p (xs ++ more) ≡ position_or_len p xs) → (v : Bool)
        → cond (not v) (1 + position_or_len p xs) 0 < suc (length xs)
        → cond (not v) (1 + position_or_len p (xs ++ more)) 0 ≡ cond (not v) (1 + position_or_len p xs) 0
    by_test ih true l = refl
    by_test ih false l = ap (λ n. 1 + n) (ih (omega arith))

-- a place that isn't found lies behind
pub place_behind : (p : ℕ → Bool) (xs more : List ℕ) → length xs ≤ position_or_len p xs
    → length xs ≤ position_or_len p (xs ++ more)
place_behind p [] more l = omega arith
place_behind p (x ∷ xs) more l = by_test (λ h. place_behind p xs more h) (p x) l
  where
    by_test : (length xs ≤ position_or_len p xs → length xs ≤ position_or_len p (xs ++ more)) → (v : Bool)
        → suc (length xs) ≤ cond (not v) (1 + position_or_len p xs) 0
        → suc (length xs) ≤ cond (not v) (1 + position_or_len p (xs ++ more)) 0
    by_test ih true l = absurd (omega arith)
    by_test ih false l = let h = ih (omega arith) in omega (arith, h)

-- the same bytes of a front
take_front : (n : ℕ) (xs more : List ℕ) → n < length xs → take n (xs ++ more) ≡ take n xs
take_front n xs more l = take-append-le n xs more (omega arith)

header_at_stays : (k : ℕ) (rest more : List ℕ) → k < length rest → header_with k (rest ++ more) ≡ header_with k rest
header_at_stays k rest more l =
    let here : ltb k (length rest) ≡ true = grind (arith, nat_tests) in
    let len = length-append rest more in
    let there : ltb k (length (rest ++ more)) ≡ true = grind (arith, nat_tests) in
    let front = take_front k rest more l in
    rw (there, front, here)

-- more than eight digits, or another byte among them, are no BodyLength
pub not_a_length : (digits : List ℕ) → (8 < length digits) ⊎ (list_all is_ascii_digit digits ≡ false)
    → is_body_length digits ≡ false
not_a_length digits (inl many) =
    let few : leb (length digits) 8 ≡ false = grind (arith, nat_tests) in
    rw few (by_tests (leb 1 (length digits)) (list_all is_ascii_digit digits))
  where
    by_tests : (v w : Bool) → (v && w && false && leb 5 (number_of digits) && leb (number_of digits) 4096) ≡ false
    by_tests true true = refl
    by_tests true false = refl
    by_tests false w = refl
not_a_length digits (inr bad) = rw bad (by_test (leb 1 (length digits)))
  where
    by_test : (v : Bool) → (v && false && leb (length digits) 8 && leb 5 (number_of digits) && leb (number_of digits)
        4096) ≡ false
    by_test true = refl
    by_test false = refl

take_over : (k : ℕ) (rest more : List ℕ) → length rest ≤ k → take k (rest ++ more) ≡ rest ++ take (k - length rest) more
take_over k [] more l = ap (λ n. take n more) (omega arith)
take_over zero (x ∷ rest) more l = absurd (omega arith)
take_over (suc k) (x ∷ rest) more l =
    ap (λ t. x ∷ t) (take_over k rest more (omega arith)) ∙ ap (λ n. x ∷ (rest ++ take n more)) (omega arith)

opened_or : (rest : List ℕ) → is_length_open (Some rest) ≡ false
    → (8 < length rest) ⊎ (list_all is_ascii_digit rest ≡ false)
opened_or rest e = by_test (cases_lt 8 (length rest))
  where
    by_test : (8 < length rest) ⊎ (length rest ≤ 8) → (8 < length rest) ⊎ (list_all is_ascii_digit rest ≡ false)
    by_test (inl many) = inl many
    by_test (inr few) = let t : leb (length rest) 8 ≡ true = grind (arith, nat_tests) in
        inr (sym (ap (λ x. x && list_all is_ascii_digit rest) t) ∙ e)

not_opened : (rest : List ℕ) → (8 < length rest) ⊎ (list_all is_ascii_digit rest ≡ false)
    → is_length_open (Some rest) ≡ false
not_opened rest (inl many) = let t : leb (length rest) 8 ≡ false = grind (arith, nat_tests) in
    ap (λ x. x && list_all is_ascii_digit rest) t
not_opened rest (inr bad) = ap (λ x. leb (length rest) 8 && x) bad ∙ and-false (leb (length rest) 8)

all_not : (rest more : List ℕ) → list_all is_ascii_digit rest ≡ false → list_all is_ascii_digit (rest ++ more) ≡ false
all_not rest more e = list_all-append is_ascii_digit rest more ∙ ap (λ x. x && list_all is_ascii_digit more) e

opened_stays : (rest more : List ℕ) → (8 < length rest) ⊎ (list_all is_ascii_digit rest ≡ false)
    → (8 < length (rest ++ more)) ⊎ (list_all is_ascii_digit (rest ++ more) ≡ false)
opened_stays rest more (inl many) = inl (omega (arith, length-append rest more))
opened_stays rest more (inr bad) = inr (all_not rest more bad)

pub no_header : (k : ℕ) (rest : List ℕ) → is_body_length (take k rest) ≡ false → header_with k rest ≡ None
no_header k rest e = ap (λ x. cond x (Some (record { body_start = k + 13; body_length = number_of (take k rest) }))
    None) (ap (λ x. ltb k (length rest) && x) e ∙ and-false (ltb k (length rest)))

-- a text with no byte 1 that isn't up to 8 digits gets no size by more bytes
no_length_later : (rest more : List ℕ) (k : ℕ) → length rest ≤ k → k ≤ length (rest ++ more)
    → (8 < length rest) ⊎ (list_all is_ascii_digit rest ≡ false) → header_with k (rest ++ more) ≡ None
no_length_later rest more k l fits (inl many) =
    no_header k (rest ++ more) (not_a_length (take k (rest ++ more))
    (inl (omega (arith, length-take-le k (rest ++ more) fits))))
no_length_later rest more k l fits (inr bad) =
    no_header k (rest ++ more) (not_a_length (take k (rest ++ more))
    (inr (ap (λ t. list_all is_ascii_digit t) (take_over k rest more l)
    ∙ all_not rest (take (k - length rest) more) bad)))

header_none_stays : (rest more : List ℕ) → header_after rest ≡ None
    → (8 < length rest) ⊎ (list_all is_ascii_digit rest ≡ false) → header_after (rest ++ more) ≡ None
header_none_stays rest more e dead = by_place (cases_lt (position_or_len is_soh rest) (length rest))
  where
    by_place : (position_or_len is_soh rest < length rest) ⊎ (length rest ≤ position_or_len is_soh rest)
        → header_after (rest ++ more) ≡ None
    by_place (inl l) =
        ap (λ k. header_with k (rest ++ more)) (place_stays is_soh rest more l)
        ∙ header_at_stays (position_or_len is_soh rest) rest more l ∙ e
    by_place (inr l) =
        no_length_later rest more (position_or_len is_soh (rest ++ more)) (place_behind is_soh rest more l)
        (place_within is_soh (rest ++ more)) dead

header_within : (k : ℕ) (rest : List ℕ) (c : FrameHeader) → header_with k rest ≡ Some c → k < length rest
header_within k rest c e = by_test (cases_lt k (length rest))
  where
    by_test : (k < length rest) ⊎ (length rest ≤ k) → k < length rest
    by_test (inl l) = l
    by_test (inr l) =
        let t : ltb k (length rest) ≡ false = grind (arith, nat_tests) in
        let none = ap (λ x. cond (x && is_body_length (take k rest))
        (Some (record { body_start = k + 13; body_length = number_of (take k rest) })) None) t in
        absurd (none-some c (sym none ∙ e))

header_some_stays : (rest more : List ℕ) (c : FrameHeader) → header_after rest ≡ Some c
    → header_after (rest ++ more) ≡ Some c
header_some_stays rest more c e =
    let l = header_within (position_or_len is_soh rest) rest c e in
    ap (λ k. header_with k (rest ++ more)) (place_stays is_soh rest more l)
    ∙ header_at_stays (position_or_len is_soh rest) rest more l ∙ e

-- behind a claim stands byte 1, which is no digit
header_not_open : (rest : List ℕ) (c : FrameHeader) → header_after rest ≡ Some c → list_all is_ascii_digit rest ≡ false
header_not_open rest c e =
    let k = position_or_len is_soh rest in
    let l = header_within (position_or_len is_soh rest) rest c e in
    let at = eqb-true _ _ (passes_at_first is_soh rest 0 l) in
    list_all_at is_ascii_digit rest (position_or_len is_soh rest) 0 l (ap is_ascii_digit at)

pub header_stays : (text more : List ℕ) (c : FrameHeader) → header text ≡ Some c → header (text ++ more) ≡ Some c
header_stays text more c e =
    option_and_then_some header_after (stripped begin_text text) c (sym (header_is text) ∙ e) (λ rest stands claims.
    header_is (text ++ more) ∙ ap (option_and_then header_after) (prefix_stays begin_text text more rest stands)
    ∙ header_some_stays rest more c claims)

body_stays : (text more : List ℕ) (c : FrameHeader) → frame_length c ≤ length text
    → body_at (text ++ more) c ≡ body_at text c
body_stays text more c fits =
    ap (λ t. take c.body_length t) (drop-append-le c.body_start text more (omega arith))
    ∙ take-append-le c.body_length (drop c.body_start text) more (omega (arith, length-drop c.body_start text))

tail_stays : (text more : List ℕ) (k : ℕ) → k + 7 ≤ length text → take 7 (drop k (text ++ more)) ≡ take 7 (drop k text)
tail_stays text more k fits =
    ap (λ t. take 7 t) (drop-append-le k text more (omega arith))
    ∙ take-append-le 7 (drop k text) more (omega (arith, length-drop k text))

sized_stays : (text more : List ℕ) (c : FrameHeader) → frame_length c ≤ length text
    → is_intact_by_size (text ++ more) c ≡ is_intact_by_size text c
sized_stays text more c fits =
    let here : leb (frame_length c) (length text) ≡ true = grind (arith, nat_tests) in
    let len = length-append text more in
    let there : leb (frame_length c) (length (text ++ more)) ≡ true = grind (arith, nat_tests) in
    let body = body_stays text more c fits in
    let tail = tail_stays text more (c.body_start + c.body_length) (omega arith) in
    let front = take-append-le (c.body_start + c.body_length) text more (omega arith) in
    rw (there, body, tail, front, here)

pub intact_stays : (text more : List ℕ) (c : FrameHeader) → frame_length c ≤ length text
    → is_intact (text ++ more) c ≡ is_intact text c
intact_stays text more c fits = intact_is (text ++ more) c ∙ sized_stays text more c fits ∙ sym (intact_is text c)

intact_none : (text : List ℕ) (c : FrameHeader) → intact_length text c ≡ None → is_intact text c ≡ false
intact_none text c e = by_test (is_intact text c) e
  where
    by_test : (v : Bool) → then_some v (frame_length c) ≡ None → v ≡ false
    by_test true e = cc
    by_test false e = refl

-- what a frame's length is
pub frame_parts : {P : Type 0} (text : List ℕ) (n : ℕ) → frame_at text ≡ Some n
    → ((c : FrameHeader) → header text ≡ Some c → is_intact text c ≡ true → frame_length c ≡ n
    → frame_length c ≤ length text → P) → P
frame_parts text n e then =
    option_and_then_some (intact_length text) (header text) n e (λ c claims keeps.
    let p = some_when (is_intact text c) (frame_length c) n keeps in
    let sized : is_intact_by_size text c ≡ true = sym (intact_is text c) ∙ p.0 in
    let fits = and_parts (leb (frame_length c) (length text)) (is_body (body_at text c)) (and_parts _ _ sized).0 in
    then c claims p.0 p.1 (leb-true (frame_length c) (length text) fits.0))

-- a frame that stands stays, whatever follows
pub frame_stays : (text more : List ℕ) (n : ℕ) → frame_at text ≡ Some n → frame_at (text ++ more) ≡ Some n
frame_stays text more n e =
    frame_parts text n e (λ c claims keeps len fits.
    ap (option_and_then (intact_length (text ++ more))) (header_stays text more c claims)
    ∙ ap (λ x. then_some x (frame_length c)) (intact_stays text more c fits ∙ keeps) ∙ ap Some len)

pub frame_within : (text : List ℕ) (n : ℕ) → frame_at text ≡ Some n → (7 ≤ n) × (n ≤ length text)
frame_within text n e = frame_parts text n e (λ c claims keeps len fits. (omega arith, omega arith))

never : (text : List ℕ) → frame_at text ≡ None → is_cut_short begin_text text ≡ false
    → is_length_open (stripped begin_text text) ≡ false → is_unfinished text (header text) ≡ false
    → (frame_at text ≡ None) × (may_begin text ≡ false)
never text e cut dead short = (e, or_from _ _ (front_is text ∙ or_from _ _ cut dead) short)

never_with_header : (text more : List ℕ) (c : FrameHeader) → header text ≡ Some c → frame_at text ≡ None
    → is_unfinished text (header text) ≡ false → (frame_at (text ++ more) ≡ None) × (may_begin (text ++ more) ≡ false)
never_with_header text more c claims e short =
    let fits : frame_length c ≤ length text = leb_from_ltb (length text) (frame_length c)
    (sym (ap (is_unfinished text) claims) ∙ short) in
    let lost = intact_none text c (sym (ap (option_and_then (intact_length text)) claims) ∙ e) in
    let claims2 = header_stays text more c claims in
    let gone = ap (option_and_then (intact_length (text ++ more))) claims2
    ∙ ap (λ x. then_some x (frame_length c)) (intact_stays text more c fits ∙ lost) in
    option_and_then_some header_after (stripped begin_text text) c (sym (header_is text) ∙ claims) (λ rest stands says.
    let stands2 = prefix_stays begin_text text more rest stands in
    let cut = whole_not_short begin_text (text ++ more) (rest ++ more) stands2 in
    let dead = ap is_length_open stands2 ∙ not_opened (rest ++ more)
    (inr (all_not rest more (header_not_open rest c says))) in
    let more_short : is_unfinished (text ++ more) (Some c) ≡ false =
    not_ltb (length (text ++ more)) (frame_length c) (omega (arith, length-append text more)) in
    never (text ++ more) gone cut dead (ap (is_unfinished (text ++ more)) claims2 ∙ more_short))
  where
    leb_from_ltb : (a b : ℕ) → ltb a b ≡ false → b ≤ a
    leb_from_ltb a b e = grind (arith, nat_tests)

    not_ltb : (a b : ℕ) → b ≤ a → ltb a b ≡ false
    not_ltb a b l = grind (arith, nat_tests)

never_unclaimed : (text more : List ℕ) (o : Option (List ℕ)) → o ≡ stripped begin_text text → header text ≡ None
    → is_cut_short begin_text text ≡ false → is_length_open (stripped begin_text text) ≡ false
    → (frame_at (text ++ more) ≡ None) × (may_begin (text ++ more) ≡ false)
never_unclaimed text more None e claims cut dead =
    let later = other_stays begin_text text more (sym e) cut in
    let none = header_is (text ++ more) ∙ ap (option_and_then header_after) later.0 in
    never (text ++ more) (ap (option_and_then (intact_length (text ++ more))) none) later.1 (ap is_length_open later.0)
    (ap (is_unfinished (text ++ more)) none)
never_unclaimed text more (Some rest) e claims cut dead =
    let says : header_after rest ≡ None = ap (option_and_then header_after) e ∙ sym (header_is text) ∙ claims in
    let known = opened_or rest (ap is_length_open e ∙ dead) in
    let stands2 = prefix_stays begin_text text more rest (sym e) in
    let none = header_is (text ++ more) ∙ ap (option_and_then header_after) stands2
    ∙ header_none_stays rest more says known in
    never (text ++ more) (ap (option_and_then (intact_length (text ++ more))) none)
    (whole_not_short begin_text (text ++ more) (rest ++ more) stands2)
    (ap is_length_open stands2 ∙ not_opened (rest ++ more) (opened_stays rest more known))
    (ap (is_unfinished (text ++ more)) none)

-- where no frame stands or may begin, none ever will
pub nothing_stays : (text more : List ℕ) → frame_at text ≡ None → may_begin text ≡ false
    → (frame_at (text ++ more) ≡ None) × (may_begin (text ++ more) ≡ false)
nothing_stays text more e m =
    let outer = or_parts _ _ m in
    let inner = or_parts _ _ (sym (front_is text) ∙ outer.0) in
    by_claim (header text) refl inner.0 inner.1 outer.1
  where
    by_claim : (o : Option FrameHeader) → o ≡ header text → is_cut_short begin_text text ≡ false
        → is_length_open (stripped begin_text text) ≡ false → is_unfinished text (header text) ≡ false
        → (frame_at (text ++ more) ≡ None) × (may_begin (text ++ more) ≡ false)
    by_claim None o cut dead short = never_unclaimed text more (stripped begin_text text) refl (sym o) cut dead
    by_claim (Some c) o cut dead short = never_with_header text more c (sym o) e short

behind_front : (word text more rest : List ℕ) → length word ≤ length text → stripped word (text ++ more) ≡ Some rest
    → (stripped word text ≡ Some (drop (length word) text)) × (rest ≡ drop (length word) text ++ more)
behind_front [] text more rest l e = (refl, sym (same_Some _ _ e))
behind_front (p ∷ ps) [] more rest l e = absurd (omega arith)
behind_front (p ∷ ps) (b ∷ bs) more rest l e = by_test (λ h. behind_front ps bs more rest (omega arith) h) (eqb p b) e
  where
    by_test : (stripped ps (bs ++ more) ≡ Some rest → (stripped ps bs ≡ Some (drop (length ps) bs))
        × (rest ≡ drop (length ps) bs ++ more)) → (v : Bool) → cond v (stripped ps (bs ++ more)) None ≡ Some rest
        → (cond v (stripped ps bs) None ≡ Some (drop (length ps) bs)) × (rest ≡ drop (length ps) bs ++ more)
    by_test ih true e = ih e
    by_test ih false e = cc

header_start : (k : ℕ) (rest : List ℕ) (c : FrameHeader) → header_with k rest ≡ Some c → c.body_start ≡ k + 13
header_start k rest c e = let p = cond_some (ltb k (length rest) && is_body_length (take k rest))
    (record { body_start = k + 13; body_length = number_of (take k rest) }) c e in sym (ap (λ x. x.body_start) p.1)

header_after_front : (rest more : List ℕ) (c : FrameHeader) → header_after (rest ++ more) ≡ Some c
    → c.body_start ≤ length rest + 12 → header_after rest ≡ Some c
header_after_front rest more c e l = by_place (cases_lt (position_or_len is_soh rest) (length rest))
  where
    by_place : (position_or_len is_soh rest < length rest) ⊎ (length rest ≤ position_or_len is_soh rest)
        → header_after rest ≡ Some c
    by_place (inl h) =
        sym (header_at_stays (position_or_len is_soh rest) rest more h)
        ∙ ap (λ k. header_with k (rest ++ more)) (sym (place_stays is_soh rest more h)) ∙ e
    by_place (inr h) =
        let far = place_behind is_soh rest more h in
        let s = header_start (position_or_len is_soh (rest ++ more)) (rest ++ more) c e in
        absurd (omega (arith, far, s))

-- a claim within a front is the front's own
pub header_front : (text more : List ℕ) (c : FrameHeader) → header (text ++ more) ≡ Some c → c.body_start ≤ length text
    → 12 ≤ length text → header text ≡ Some c
header_front text more c e l twelve =
    option_and_then_some header_after (stripped begin_text (text ++ more)) c (sym (header_is (text ++ more)) ∙ e)
    (λ rest stands says.
    let parts = behind_front begin_text text more rest twelve stands in
    let says2 : header_after (drop 12 text ++ more) ≡ Some c = sym (ap header_after parts.1) ∙ says in
    header_is text ∙ ap (option_and_then header_after) parts.0
    ∙ header_after_front (drop 12 text) more c says2 (omega (arith, length-drop 12 text)))

-- the header of a text is that of a front which has the frame
pub header_alone : (text : List ℕ) (n : ℕ) (c : FrameHeader) → header text ≡ Some c → frame_length c ≤ n
    → n ≤ length text → header (take n text) ≡ Some c
header_alone text n c claims fits within =
    let size = length-take-le n text within in
    let begins : 13 ≤ c.body_start = option_and_then_some header_after (stripped begin_text text) c
    (sym (header_is text) ∙ claims) (λ rest stands says. let s =
    header_start (position_or_len is_soh rest) rest c says in omega (arith, s)) in
    header_front (take n text) (drop n text) c (ap header (take-append-drop n text) ∙ claims) (omega (arith, size))
    (omega (arith, size))

-- a frame at the front of a text is a frame alone
pub frame_alone : (text : List ℕ) (n : ℕ) → frame_at text ≡ Some n
    → frame_at (take n text) ≡ Some (length (take n text))
frame_alone text n e =
    frame_parts text n e (λ c claims keeps len fits.
    let size = length-take-le n text (omega arith) in
    let claims2 = header_alone text n c claims (omega (arith, len)) (omega (arith, len, fits)) in
    let keeps2 = sym (intact_stays (take n text) (drop n text) c (omega (arith, size)))
    ∙ ap (λ t. is_intact t c) (take-append-drop n text) ∙ keeps in
    ap (option_and_then (intact_length (take n text))) claims2 ∙ ap (λ x. then_some x (frame_length c)) keeps2
    ∙ ap Some (len ∙ sym size))

cut_short : (word text : List ℕ) → is_cut_short word text ≡ true → length text < length word
cut_short [] text e = cc
cut_short (p ∷ ps) [] e = omega arith
cut_short (p ∷ ps) (b ∷ bs) e = let t = and_parts (eqb p b) (is_cut_short ps bs) e in omega (arith, cut_short ps bs t.1)

behind_len : (word text rest : List ℕ) → stripped word text ≡ Some rest → length text ≡ length word + length rest
behind_len [] text rest e = let h = ap length (same_Some _ _ e) in omega (arith, h)
behind_len (p ∷ ps) [] rest e = cc
behind_len (p ∷ ps) (b ∷ bs) rest e = by_test (λ h. behind_len ps bs rest h) (eqb p b) e
  where
    by_test : (stripped ps bs ≡ Some rest → length bs ≡ length ps + length rest) → (v : Bool)
        → cond v (stripped ps bs) None ≡ Some rest → suc (length bs) ≡ suc (length ps) + length rest
    by_test ih true e = let h = ih e in omega (arith, h)
    by_test ih false e = cc

header_bound : (k : ℕ) (rest : List ℕ) (c : FrameHeader) → header_with k rest ≡ Some c → frame_length c ≤ 4124
header_bound k rest c e =
    let p = cond_some (ltb k (length rest) && is_body_length (take k rest))
    (record { body_start = k + 13; body_length = number_of (take k rest) }) c e in
    let tests = and_parts (ltb k (length rest)) (is_body_length (take k rest)) p.0 in
    let digits = take k rest in
    let len = length-take-le k rest (omega (arith, header_within k rest c e)) in
    let five = and_parts (leb 1 (length digits) && list_all is_ascii_digit digits && leb (length digits) 8 && leb 5
    (number_of digits)) (leb (number_of digits) 4096) tests.1 in
    let few : k ≤ 8 = omega (
      arith,
      len,
      leb-true (length digits) 8
          (and_parts (leb 1 (length digits) && list_all is_ascii_digit digits) (leb (length digits) 8)
          (and_parts _ _ five.0).0).1,
    ) in
    let size : number_of digits ≤ 4096 = leb-true (number_of digits) 4096 five.1 in
    subst (λ x. frame_length x ≤ 4124) p.1 (omega (arith, few, size))

-- what may still begin a frame is short
pub begins_short : (text : List ℕ) → may_begin text ≡ true → length text < 4124
begins_short text e = by_cut (is_cut_short begin_text text) refl
  where
    shift : (x y z : Bool) → x ≡ false → ((x || y) || z) ≡ true → (y || z) ≡ true
    shift true y z f s = absurd (false≢true (sym f))
    shift false y z f s = s

    by_claim : (o : Option FrameHeader) → o ≡ header text → is_unfinished text o ≡ true → length text < 4124
    by_claim None o s = cc
    by_claim (Some c) o s =
        option_and_then_some header_after (stripped begin_text text) c (sym (header_is text) ∙ sym o)
        (λ rest stands says.
        let b = header_bound (position_or_len is_soh rest) rest c says in
        let l : length text < frame_length c = ltb-true (length text) (frame_length c) s in omega (arith, b, l))

    by_behind : (o : Option (List ℕ)) → o ≡ stripped begin_text text
        → (is_length_open o || is_unfinished text (header text)) ≡ true → length text < 4124
    by_behind None o s = by_claim (header text) refl s
    by_behind (Some rest) o s = by_open (is_length_open (Some rest)) refl
      where
        by_open : (v : Bool) → v ≡ is_length_open (Some rest) → length text < 4124
        by_open true v =
            let t = leb-true (length rest) 8 (and_parts (leb (length rest) 8) (list_all is_ascii_digit rest) (sym v)).0
            in
            omega (arith, t, behind_len begin_text text rest (sym o))
        by_open false v = by_claim (header text) refl (sym (ap (λ x. x || is_unfinished text (header text)) (sym v))
            ∙ s)

    by_cut : (v : Bool) → v ≡ is_cut_short begin_text text → length text < 4124
    by_cut true v = let h = cut_short begin_text text (sym v) in omega (arith, h)
    by_cut false v = by_behind (stripped begin_text text) refl
        (shift _ _ _ (sym v) (ap (λ x. x || is_unfinished text (header text)) (sym (front_is text)) ∙ e))

-- no frame is longer than 4,124 bytes
pub frame_short : (text : List ℕ) (n : ℕ) → frame_at text ≡ Some n → n ≤ 4124
frame_short text n e =
    frame_parts text n e (λ h claims keeps len fits.
    option_and_then_some header_after (stripped begin_text text) h (sym (header_is text) ∙ claims) (λ rest stands says.
    let b = header_bound (position_or_len is_soh rest) rest h says in
    omega (arith, b, len)))
