-- The header of a text, and what may still become one, byte by byte.
use Rattle.std.proofs.Common.{◌≡◌, ℕ, suc, ◌+◌, ◌<◌, Bool, true, false, cond, ◌&&◌, ◌||◌, not, ◌==◌, nat_eq, eqb, ltb, leb, List, [], ◌∷◌, ◌++◌, length, take, drop, Option, Some, None, option_and_then, refl, sym, ap, ◌∙◌, arith, length-append}
use Rattle.std.specs.Bool.{then_some}
use Rattle.std.specs.Char.{is_ascii_digit}
use Rattle.std.specs.List.{list_all, position_or_len, before_first, starts_with}
use Rattle.std.specs.Option.{option_map_or}
use Rattle.std.proofs.Math.Bool.{or-false}
use Rattle.std.proofs.lemmas.Bool.Decides.{nat_tests}
use Rattle.std.proofs.lemmas.List.{length-take-le}
use Rattle.std.proofs.lemmas.Option.{cond_some}
use Rattle.fix_wire_values.specs.Digits.{number_of}
use Rattle.fix_wire_frames.specs.declared.frame.FrameHeader.{FrameHeader}
use Rattle.fix_wire_frames.specs.code.Texts.{stripped, is_cut_short, is_soh}
use Rattle.fix_wire_frames.specs.declared.frame.Scan.TheVariants.{Incomplete, Frame}
use Rattle.fix_wire_frames.specs.Frames.{begin_text, header, is_body_length, is_intact, body_at, frame_length}
use Rattle.fix_wire_frames.specs.code.Frames.{header_after, is_length_open, is_front_open, is_unfinished, is_body, intact_length}
use Rattle.fix_wire_frames.specs.code.Scans.{is_header_open, scan_front, scan_with}
use Rattle.fix_wire_frames.proofs.texts.WordAtTheFront.{behind_is, some_where, eqb_swap, ltb_suc}
use Rattle.fix_wire_frames.proofs.fields.RowOfFields.{place_within}
use Rattle.fix_wire_frames.proofs.framing.IntactFrame.{intact_is}

-- a word and then another
starts_joined : (word text more : List ℕ) → starts_with nat_eq text (word ++ more) ≡ option_map_or
    (λ rest. starts_with nat_eq rest more) (stripped word text) false
starts_joined [] text more = refl
starts_joined (p ∷ ps) [] more = refl
starts_joined (p ∷ ps) (b ∷ bs) more =
    elim (p == b) as (λ v. (v && starts_with nat_eq bs (ps ++ more)) ≡ option_map_or
    (λ rest. starts_with nat_eq rest more) (cond v (stripped ps bs) None) false) [
      | true ↦ starts_joined ps bs more
      | false ↦ refl
    ]

same_byte : (b : ℕ) → eqb b b ≡ true
same_byte b = grind (arith, nat_tests)

starts_self : (text : List ℕ) → starts_with nat_eq text text ≡ true
starts_self [] = refl
starts_self (b ∷ bs) = ap (λ x. x && starts_with nat_eq bs bs) (same_byte b) ∙ starts_self bs

-- what stands before the first SOH, and SOH
ended_there : (rest : List ℕ) → starts_with nat_eq rest (before_first is_soh rest ++ 1 ∷ []) ≡ ltb
    (position_or_len is_soh rest) (length rest)
ended_there [] = refl
ended_there (b ∷ bs) = by_test (ended_there bs) (eqb b 1) refl
  where
    by_test : starts_with nat_eq bs (before_first is_soh bs ++ 1 ∷ []) ≡ ltb (position_or_len is_soh bs) (length bs)
        → (v : Bool) → eqb b 1 ≡ v →
        starts_with nat_eq (b ∷ bs) (take (cond (not v) (1 + position_or_len is_soh bs) 0) (b ∷ bs) ++ 1 ∷ []) ≡ ltb
        (cond (not v) (1 + position_or_len is_soh bs) 0) (suc (length bs))
    by_test ih true e =
        let one : eqb 1 b ≡ true = grind (arith, nat_tests) in
        let some : ltb 0 (suc (length bs)) ≡ true = grind (arith, nat_tests) in
        ap (λ x. x && true) one ∙ sym some
    by_test ih false e =
        let k = position_or_len is_soh bs in
        let next : 1 + k ≡ suc k = omega arith in
        ap (λ n. starts_with nat_eq (b ∷ bs) (take n (b ∷ bs) ++ 1 ∷ [])) next
        ∙ ap (λ x. x && starts_with nat_eq bs (before_first is_soh bs ++ 1 ∷ [])) (same_byte b)
        ∙ ih ∙ sym (ap (λ n. ltb n (suc (length bs))) next ∙ ltb_suc k (length bs))

-- the header where these are the bytes behind the begin text, and a test tells whether it is whole
abbrev header_of_rest : List ℕ → Bool → Option FrameHeader
header_of_rest rest b =
    then_some (b && is_body_length (before_first is_soh rest))
    (record {
      body_start = length (begin_text ++ (before_first is_soh rest ++ (1 ∷ [])));
      body_length =
          number_of (before_first is_soh rest);
    })

pub header_is : (text : List ℕ) → header text ≡ option_and_then header_after (stripped begin_text text)
header_is text = by_rest (stripped begin_text text) refl
  where
    by_rest : (o : Option (List ℕ)) → stripped begin_text text ≡ o → header text ≡ option_and_then header_after o
    by_rest None e =
        let more = before_first is_soh (drop 12 text) ++ 1 ∷ [] in
        ap (header_of_rest (drop 12 text)) (starts_joined begin_text text more
        ∙ ap (λ o. option_map_or (λ rest. starts_with nat_eq rest more) o false) e)
    by_rest (Some rest) e =
        let more = before_first is_soh (drop 12 text) ++ 1 ∷ [] in
        let rest_is = (cond_some (starts_with nat_eq text begin_text) (drop 12 text) rest
        (sym (behind_is begin_text text) ∙ e)).1 in
        let digits = take (position_or_len is_soh rest) rest in
        let size = length-take-le (position_or_len is_soh rest) rest (place_within is_soh rest) in
        let start : length (begin_text ++ (digits ++ (1 ∷ []))) ≡ position_or_len is_soh rest + 13 =
        omega (arith, length-append begin_text (digits ++ 1 ∷ []), length-append digits (1 ∷ []), size) in
        ap (header_of_rest (drop 12 text)) (starts_joined begin_text text more
        ∙ ap (λ o. option_map_or (λ r. starts_with nat_eq r more) o false) e)
        ∙ ap (λ r. header_of_rest r (starts_with nat_eq rest (before_first is_soh r ++ 1 ∷ []))) rest_is
        ∙ ap (header_of_rest rest) (ended_there rest)
        ∙ ap (λ n. then_some (ltb (position_or_len is_soh rest) (length rest) && is_body_length digits)
        (record { body_start = n; body_length = number_of digits })) start
        ∙ some_where (ltb (position_or_len is_soh rest) (length rest) && is_body_length digits) _

-- the front of a word and of up to eight digits
fronts : (word text : List ℕ) → (starts_with nat_eq (word ++ drop (length word) text) text && leb
    (length (drop (length word) text)) 8 && list_all is_ascii_digit (drop (length word) text)) ≡
    (is_cut_short word text || is_length_open (stripped word text))
fronts [] text = ap (λ x. x && leb (length text) 8 && list_all is_ascii_digit text) (starts_self text)
fronts (p ∷ ps) [] = refl
fronts (p ∷ ps) (b ∷ bs) =
    let more = drop (length ps) bs in
    ap (λ x. (x && starts_with nat_eq (ps ++ more) bs) && leb (length more) 8 && list_all is_ascii_digit more)
    (eqb_swap b p)
    ∙ elim (p == b) as (λ v. ((v && starts_with nat_eq (ps ++ drop (length ps) bs) bs) && leb
    (length (drop (length ps) bs)) 8 && list_all is_ascii_digit (drop (length ps) bs)) ≡
    ((v && is_cut_short ps bs) || is_length_open (cond v (stripped ps bs) None))) [
      | true ↦ fronts ps bs
      | false ↦ refl
    ]

pub front_is : (text : List ℕ) → is_front_open text ≡ is_header_open text
front_is text = fronts begin_text text

pub header_when : (text : List ℕ) → starts_with nat_eq text begin_text ≡ true
    → header text ≡ header_after (drop 12 text)
header_when text begins = header_is text ∙ ap (option_and_then header_after)
    (behind_is begin_text text ∙ ap (λ x. cond x (Some (drop 12 text)) None) begins)

-- what stands at the front of a text without a header
pub front_without_header : (text : List ℕ) (open_ : Bool) → header text ≡ None → is_header_open text ≡ open_
    → scan_front text ≡ scan_with open_ None
front_without_header text open_ none e =
    ap (λ o. scan_with (is_front_open text || is_unfinished text o) (option_and_then (intact_length text) o)) none
    ∙ ap (λ v. scan_with (v || false) None) (front_is text ∙ e) ∙ ap (λ v. scan_with v None) (or-false open_)

first_fails : (x y z : Bool) → x ≡ false → (x && y && z) ≡ false
first_fails true y z e = cc
first_fails false y z e = refl

or_true : (x : Bool) → (x || true) ≡ true
or_true true = refl
or_true false = refl

-- a header whose frame is cut short
pub front_cut_short : (text : List ℕ) (h : FrameHeader) → header text ≡ Some h → length text < frame_length h
    → scan_front text ≡ Incomplete
front_cut_short text h e l =
    let short : leb (frame_length h) (length text) ≡ false = grind (arith, nat_tests) in
    let lost : is_intact text h ≡ false = intact_is text h
    ∙ first_fails (leb (frame_length h) (length text)) (is_body (body_at text h)) _ short in
    let less : ltb (length text) (frame_length h) ≡ true = grind (arith, nat_tests) in
    ap (λ o. scan_with (is_front_open text || is_unfinished text o) (option_and_then (intact_length text) o)) e
    ∙ (ap (λ v. scan_with (is_front_open text || v) (then_some (is_intact text h) (frame_length h))) less
    ∙ (ap (λ v. scan_with (is_front_open text || true) (then_some v (frame_length h))) lost
    ∙ ap (λ v. scan_with v None) (or_true (is_front_open text))))

-- a header whose frame stands there
pub front_intact : (text : List ℕ) (h : FrameHeader) → header text ≡ Some h → is_intact text h ≡ true
    → scan_front text ≡ Frame (frame_length h)
front_intact text h e intact =
    ap (λ o. scan_with (is_front_open text || is_unfinished text o) (option_and_then (intact_length text) o)) e
    ∙ ap (λ v. scan_with (is_front_open text || is_unfinished text (Some h)) (then_some v (frame_length h))) intact
