-- A written message is a lawful frame with its fields.
use Rattle.std.proofs.Common.{rules, ◌≡◌, ◌≢◌, ℕ, ◌+◌, ◌/◌, ◌%◌, ◌<◌, ◌≤◌, ◌^◌, pos, Bool, true, false, cond, ◌&&◌, not, nat_eq, eqb, leb, ltb, List, [], ◌∷◌, ◌++◌, map, length, take, drop, sum, Some, None, option_and_then, is_some, unwrap_or, get_or, refl, sym, ap, ◌∙◌, subst, arith, length-append}
use Rattle.std.specs.Prelude.{decimal, slice_index, unsigned_abs, int_lt}
use Rattle.std.specs.Char.{is_ascii_digit}
use Rattle.std.specs.Bool.{then_some}
use Rattle.std.specs.List.{list_all, position_or_len, starts_with, flat_map, AllByRecursion}
use Rattle.std.specs.Str.{bytes_eq}
use Rattle.std.proofs.lemmas.Bool.{and_parts, and_from}
use Rattle.std.proofs.lemmas.Bool.Decides.{nat_tests}
use Rattle.std.proofs.lemmas.List.{take_at, drop_at, append_assoc, take_all, drop_all, take_more, flat_map_more}
use Rattle.std.proofs.lemmas.List.Folds.{list_all-append}
use Rattle.std.proofs.lemmas.Slice.Eq.{bytes_eq-Decides}
use Rattle.std.proofs.lemmas.Str.Parse.{IsNumeralModel, numerals_by_fold}
use Rattle.std.proofs.lemmas.Fmt.{digits_decimal, digits_value-decimal, length-decimal-le, decimal_nonempty, first_decimal, decimal_step, decimal_digit}
use Rattle.fix_wire_frames.specs.declared.frame.FrameHeader.{FrameHeader}
use Rattle.fix_wire.specs.declared.writer.Value.{Value}
use Rattle.fix_wire.specs.declared.writer.Value.TheVariants.{Text, Number, Price, Pair}
use Rattle.fix_wire.specs.declared.writer.Field as given
use Rattle.fix_wire.specs.declared.writer.Head.{Head}
use Rattle.fix_wire.specs.declared.writer.SpelledHead.{SpelledHead}
use Rattle.fix_wire_frames.specs.code.Texts.{is_soh}
use Rattle.fix_wire_values.specs.Digits.{number_of, two_digits}
use Rattle.fix_wire_values.specs.code.Digits.{number_after}
use Rattle.fix_wire_frames.specs.Fields.{TagValue, fields_of_body}
use Rattle.fix_wire_frames.specs.code.Fields.{is_tag}
use Rattle.fix_wire_frames.specs.Frames.{begin_text, header, is_body_length, is_intact, body_at, frame_length, frame_at, frames, checksum_field}
use Rattle.fix_wire_frames.specs.code.Frames.{header_after, header_with, is_body, is_intact_by_size, intact_length}
use Rattle.fix_wire_frames.specs.Messages.{fields}
use Rattle.spread_rules_ids.specs.Ids.{is_plain}
use Rattle.fix_wire.specs.Layout.{field, field_text, head_fields, field_of_given, all_fields, body_text, message_text, value_text, FitsTypes, FitsValue, FitsValueOf, FitsTags, FitsField, FitsHead, FitsMessage, IsReadBack, SpellsHead}
use Rattle.fix_wire.specs.code.Layout.{only_if, summed_text, frame_text}
use Rattle.fix_wire.specs.Spelling.{spelled_body}
use Rattle.fix_wire.proofs.writing.HeadFields.{head_spelled}
use Rattle.fix_wire.proofs.writing.SpelledRow as spelled
use Rattle.fix_wire_frames.proofs.framing.FramesHeld.{scan_frame}
use Rattle.fix_wire_frames.proofs.framing.IntactFrame.{intact_is}
use Rattle.fix_wire_frames.proofs.texts.HeaderAtTheFront.{header_is}

-- ---- the body as one list of fields

pub flat_map_two : (xs ys : List given.Field) → flat_map field_text (xs ++ ys) ≡ flat_map field_text xs
    ++ flat_map field_text ys
flat_map_two [] ys = refl
flat_map_two (x ∷ xs) ys = ap (λ t. field_text x ++ t) (flat_map_two xs ys)
    ∙ sym (append_assoc (field_text x) (flat_map field_text xs) (flat_map field_text ys))

-- ---- fields one after another

pub fields_more : (before : List ℕ) (fs : List given.Field) (i : ℕ) (f : given.Field) → i < length fs
    → f ≡ get_or fs i f →
    (before ++ flat_map field_text (take i fs)) ++ field_text f ≡ before ++ flat_map field_text (take (i + 1) fs)
fields_more before fs i f l e =
    flat_map_more field_text before (take i fs) f ∙ ap (λ t. before ++ flat_map field_text t)
    (sym (take_more fs i f l ∙ ap (λ x. take i fs ++ x ∷ []) (sym e)))

-- what holds of each of the first, and of the next, holds of one more
pub all_more : (P : given.Field → Type 0) (fs : List given.Field) (i : ℕ) (f : given.Field) → i < length fs
    → f ≡ get_or fs i f → AllByRecursion P (take i fs) → P f → AllByRecursion P (take (i + 1) fs)
all_more P fs i f l e all one = subst (AllByRecursion P)
    (sym (take_more fs i f l ∙ ap (λ x. take i fs ++ x ∷ []) (sym e))) (all_append (take i fs) all)
  where
    all_append : (xs : List given.Field) → AllByRecursion P xs → AllByRecursion P (xs ++ f ∷ [])
    all_append [] h = (one, tt)
    all_append (x ∷ xs) h = (h.0, all_append xs h.1)

-- the CheckSum behind what it sums
pub frame_closed : (body : List ℕ) (start : ℕ) (o o3 o4 : List ℕ) → start ≡ length o → o3 ≡ o ++ summed_text body →
    o4 ≡ o3 ++ checksum_field (sum (drop start o3) % 256) → o4 ≡ o ++ frame_text body
frame_closed body start o o3 o4 begins written e4 =
    let summed = ap (drop start) written ∙ drop_at o (summed_text body) start (sym begins) in
    e4 ∙ ap (λ t. o3 ++ checksum_field (sum t % 256)) summed
    ∙ ap (λ t. t ++ checksum_field (sum (summed_text body) % 256)) written
    ∙ append_assoc o (summed_text body) (checksum_field (sum (summed_text body) % 256))

-- what was spelled is the body of that message
pub body_spelled : (l : SpelledHead) (h : Head) (fs : List given.Field) → SpellsHead l h
    → spelled_body l fs ≡ body_text h fs
body_spelled l h fs same = ap (λ t. t ++ flat_map field_text fs) (head_spelled l h same)
    ∙ sym (flat_map_two (head_fields h) fs)

pub types_spelled : (l : SpelledHead) (h : Head) → SpellsHead l h → l.number < 2 ^ 64 → FitsTypes h
types_spelled l h same range = (
  subst (λ n. n < 2 ^ 64) same.number range,
  same.parties.sender_plain,
  same.parties.target_plain,
  same.parties.stamp_plain,
)

-- ---- decimal numbers

own : IsNumeralModel (λ ds. list_all is_ascii_digit ds ≡ true) (number_after 0)
own = numerals_by_fold _ (search rules) number_after (search rules)

pub decimal_digits : (n : ℕ) → n < 2 ^ 64 → list_all is_ascii_digit (decimal n) ≡ true
decimal_digits n h = digits_decimal own n h

pub decimal_number : (n : ℕ) → n < 2 ^ 64 → number_of (decimal n) ≡ n
decimal_number n h = digits_value-decimal own n h

digit_plain : (d : ℕ) → is_ascii_digit d ≡ true → not (eqb d 1) ≡ true
digit_plain d h = grind (arith, nat_tests)

digits_plain : (ds : List ℕ) → list_all is_ascii_digit ds ≡ true → is_plain ds ≡ true
digits_plain [] e = refl
digits_plain (d ∷ ds) e =
    let parts = and_parts (is_ascii_digit d) (list_all is_ascii_digit ds) e in
    and_from (not (eqb d 1)) (is_plain ds) (digit_plain d parts.0) (digits_plain ds parts.1)

plain_two : (xs ys : List ℕ) → is_plain xs ≡ true → is_plain ys ≡ true → is_plain (xs ++ ys) ≡ true
plain_two xs ys e f = list_all-append (λ b. not (eqb b 1)) xs ys ∙ and_from (is_plain xs) (is_plain ys) e f

decimal_plain : (n : ℕ) → n < 2 ^ 64 → is_plain (decimal n) ≡ true
decimal_plain n h = digits_plain (decimal n) (decimal_digits n h)

first_index : (ds : List ℕ) → 48 < get_or ds 0 0 → not (eqb (slice_index ds 0) 48) ≡ true
first_index [] h = absurd (omega (arith, h))
first_index (d ∷ ds) h = grind (arith, nat_tests)

tag_tests : (ds : List ℕ) → 0 < length ds → length ds ≤ 9 → list_all is_ascii_digit ds ≡ true
    → not (eqb (slice_index ds 0) 48) ≡ true → is_tag ds ≡ true
tag_tests ds some few digits first =
    let one : leb 1 (length ds) ≡ true = grind (arith, nat_tests) in
    let nine : leb (length ds) 9 ≡ true = grind (arith, nat_tests) in
    rw (one, nine, digits, first) refl

decimal_tag : (n : ℕ) → 1 ≤ n → n < 1000000000 → is_tag (decimal n) ≡ true
decimal_tag n low high =
    let small : n < 2 ^ 64 = omega arith in
    tag_tests (decimal n) (decimal_nonempty n small) (length-decimal-le 9 n (omega arith) (omega arith) small)
    (decimal_digits n small) (first_index (decimal n) (first_decimal n (omega arith) small))

-- ---- fields

-- a tag of one to nine digits, and a value without byte 1
pub record Fits (f : TagValue) : Type 0 where
  pub low : 1 ≤ f.tag
  pub high : f.tag < 1000000000
  pub plain : is_plain f.value ≡ true

abbrev spelled_of : (f : TagValue) → Fits f → spelled.Spelled
spelled_of f h =
    let small : f.tag < 2 ^ 64 = omega (arith, h.high) in
    record {
      digits = decimal f.tag;
      value = f.value;
      tag = decimal_tag f.tag h.low h.high;
      plain = plain_two (decimal f.tag) (61 ∷ f.value) (decimal_plain f.tag small) h.plain;
    }

abbrev spelled_all : (fs : List TagValue) → AllByRecursion Fits fs → List spelled.Spelled
spelled_all [] h = []
spelled_all (f ∷ fs) h = spelled_of f h.0 ∷ spelled_all fs h.1

texts_same : (fs : List given.Field) (h : AllByRecursion Fits (map field_of_given fs))
    → flat_map spelled.ended (spelled_all (map field_of_given fs) h) ≡ flat_map field_text fs
texts_same [] h = refl
texts_same (f ∷ fs) h = ap (λ t. field_text f ++ t) (texts_same fs h.1)

abbrev tag_value : ℕ → List ℕ → TagValue
tag_value tag value = record { tag = tag; value = value }

fields_same : (fs : List TagValue) (h : AllByRecursion Fits fs) → spelled.map_fields (spelled_all fs h) ≡ fs
fields_same [] h = refl
fields_same (f ∷ fs) h =
    ap (λ n. tag_value n f.value ∷ spelled.map_fields (spelled_all fs h.1))
    (decimal_number f.tag (omega (arith, h.0.high)))
    ∙ ap (λ t. f ∷ t) (fields_same fs h.1)

-- a row of written fields is read as these fields
pub row_written : (fs : List given.Field) → AllByRecursion Fits (map field_of_given fs)
    → fields_of_body (flat_map field_text fs) ≡ Some (map field_of_given fs)
row_written fs h =
    ap fields_of_body (sym (texts_same fs h)) ∙ spelled.row_spelled (spelled_all (map field_of_given fs) h)
    ∙ ap Some (fields_same (map field_of_given fs) h)

-- ---- values

not_one : (x : ℕ) → not (eqb (48 + x) 1) ≡ true
not_one x = grind (arith, nat_tests)

two_plain : (n : ℕ) → is_plain (two_digits n) ≡ true
two_plain n = and_from (not (eqb (48 + n / 10 % 10) 1)) (not (eqb (48 + n % 10) 1) && true) (not_one (n / 10 % 10))
    (and_from (not (eqb (48 + n % 10) 1)) true (not_one (n % 10)) refl)

size_small : (n : ℕ) → n < 2 ^ 64 → n / 100 < 2 ^ 64
size_small n h = grind arith

pub value_plain : (v : Value) → FitsValue v → is_plain (value_text v) ≡ true
value_plain (Text id) h = h
value_plain (Number n) h = decimal_plain n h
value_plain (Pair a b) h = plain_two (decimal a) (45 ∷ decimal b) (decimal_plain a h.0) (decimal_plain b h.1)
value_plain (Price z) h = by_sign (int_lt z (pos 0))
  where
    whole : is_plain (decimal (unsigned_abs z / 100) ++ (46 ∷ two_digits (unsigned_abs z % 100))) ≡ true
    whole = plain_two (decimal (unsigned_abs z / 100)) (46 ∷ two_digits (unsigned_abs z % 100))
        (decimal_plain (unsigned_abs z / 100) (size_small (unsigned_abs z) h)) (two_plain (unsigned_abs z % 100))

    by_sign : (s : Bool) → is_plain ((cond s (45 ∷ []) [])
        ++ (decimal (unsigned_abs z / 100) ++ (46 ∷ two_digits (unsigned_abs z % 100)))) ≡ true
    by_sign true = whole
    by_sign false = whole

-- ---- all fields of a message

all_two : (xs ys : List given.Field) → AllByRecursion FitsField xs → AllByRecursion FitsField ys
    → AllByRecursion FitsField (xs ++ ys)
all_two [] ys h g = g
all_two (x ∷ xs) ys h g = (h.0, all_two xs ys h.1 g)

given_fit : (fs : List given.Field) → AllByRecursion FitsField fs → AllByRecursion Fits (map field_of_given fs)
given_fit [] h = tt
given_fit (f ∷ fs) h = (record { low = h.0.0; high = h.0.1; plain = value_plain f.value h.0.2 }, given_fit fs h.1)

only_fit : (d : Bool) (f : given.Field) → FitsField f → AllByRecursion FitsField (only_if d f)
only_fit true f h = (h, tt)
only_fit false f h = tt

small_tag : (t : ℕ) (v : Value) → 1 ≤ t → t < 1000 → FitsValue v → FitsField (field t v)
small_tag t v low high fits = (low, omega (arith, high), fits)

kind_plain : (k : ℕ) → k ≢ 1 → is_plain (k ∷ []) ≡ true
kind_plain k h = and_from (not (eqb k 1)) true (grind (arith, nat_tests)) refl

head_fit : (h : Head) → FitsHead h → AllByRecursion FitsField (head_fields h)
head_fit h (kind, (number, sender, target, stamp)) = (
  small_tag 35 (Text (h.kind ∷ [])) (omega arith) (omega arith) (kind_plain h.kind kind),
  (
    small_tag 34 (Number h.number) (omega arith) (omega arith) number,
    all_two (only_if h.duplicate (field 43 (Text (89 ∷ [])))) _
        (only_fit h.duplicate (field 43 (Text (89 ∷ []))) (small_tag 43 (Text (89 ∷ [])) (omega arith) (omega arith)
        refl)) (
          small_tag 49 (Text h.sender) (omega arith) (omega arith) sender,
          (
            small_tag 52 (Text h.stamp) (omega arith) (omega arith) stamp,
            (
              small_tag 56 (Text h.target) (omega arith) (omega arith) target,
              only_fit h.duplicate (field 122 (Text h.stamp)) (small_tag 122 (Text h.stamp) (omega arith) (omega arith)
                  stamp),
            ),
          ),
        ),
  ),
)

all_fit : (h : Head) (fs : List given.Field) → FitsHead h → AllByRecursion FitsField fs
    → AllByRecursion Fits (all_fields h fs)
all_fit h fs head rest = given_fit (head_fields h ++ fs) (all_two (head_fields h) fs (head_fit h head) rest)

-- ---- the body

thirty_five : decimal 35 ≡ 51 ∷ 53 ∷ []
thirty_five = decimal_step 35 (omega arith) (omega arith) ∙ ap (λ t. t ++ 53 ∷ []) (decimal_digit 3 (omega arith))

abbrev body_rest : Head → List given.Field → List ℕ
body_rest h fs = flat_map field_text (drop 1 (head_fields h ++ fs))

body_front : (h : Head) (fs : List given.Field) → body_text h fs ≡ 51 ∷ 53 ∷ 61 ∷ h.kind ∷ 1 ∷ body_rest h fs
body_front h fs = ap (λ ds. ((ds ++ (61 ∷ h.kind ∷ [])) ++ (1 ∷ [])) ++ body_rest h fs) thirty_five

pub body_row : (h : Head) (fs : List given.Field) → FitsMessage h fs
    → fields_of_body (body_text h fs) ≡ Some (all_fields h fs)
body_row h fs fits = row_written (head_fields h ++ fs) (all_fit h fs fits.0 fits.1)

body_lawful : (h : Head) (fs : List given.Field) → FitsMessage h fs → is_body (body_text h fs) ≡ true
body_lawful h fs fits =
    and_from (starts_with nat_eq (body_text h fs) (51 ∷ 53 ∷ 61 ∷ [])) (is_some (fields_of_body (body_text h fs)))
    (ap (λ t. starts_with nat_eq t (51 ∷ 53 ∷ 61 ∷ [])) (body_front h fs)) (ap is_some (body_row h fs fits))

body_long : (h : Head) (fs : List given.Field) → 5 ≤ length (body_text h fs)
body_long h fs = let e = ap length (body_front h fs) in omega (arith, e)

-- ---- the frame

place_one : (ds rest : List ℕ) → is_plain ds ≡ true → position_or_len is_soh (ds ++ 1 ∷ rest) ≡ length ds
place_one [] rest e = refl
place_one (d ∷ ds) rest e =
    let parts = and_parts (not (eqb d 1)) (is_plain ds) e in
    ap (λ x. cond x (1 + position_or_len is_soh (ds ++ 1 ∷ rest)) 0) parts.0
    ∙ (let h = place_one ds rest parts.1 in omega (arith, h))

size_tests : (ds : List ℕ) (n : ℕ) → 0 < length ds → length ds ≤ 8 → list_all is_ascii_digit ds ≡ true
    → number_of ds ≡ n → 5 ≤ n → n ≤ 4096 → is_body_length ds ≡ true
size_tests ds n some few digits number low high =
    let one : leb 1 (length ds) ≡ true = grind (arith, nat_tests) in
    let eight : leb (length ds) 8 ≡ true = grind (arith, nat_tests) in
    let least : leb 5 (number_of ds) ≡ true = grind (arith, nat_tests) in
    let most : leb (number_of ds) 4096 ≡ true = grind (arith, nat_tests) in
    rw (one, eight, digits, least, most) refl

header_spelled : (ds body : List ℕ) → is_body_length ds ≡ true → is_plain ds ≡ true
    → header_after (ds ++ 1 ∷ body) ≡ Some (record { body_start = length ds + 13; body_length = number_of ds })
header_spelled ds body size plain =
    let len = length-append ds (1 ∷ body) in
    let here : ltb (length ds) (length (ds ++ 1 ∷ body)) ≡ true = grind (arith, nat_tests) in
    ap (λ k. header_with k (ds ++ 1 ∷ body)) (place_one ds body plain)
    ∙ ap (λ t. cond (ltb (length ds) (length (ds ++ 1 ∷ body)) && is_body_length t)
    (Some (record { body_start = length ds + 13; body_length = number_of t })) None)
    (take_at ds (1 ∷ body) (length ds) refl)
    ∙ ap (λ v. cond (v && is_body_length ds) (Some (record { body_start = length ds + 13; body_length = number_of ds }))
    None) here
    ∙ ap (λ v. cond v (Some (record { body_start = length ds + 13; body_length = number_of ds })) None) size

bytes_same : (xs ys : List ℕ) → xs ≡ ys → bytes_eq xs ys ≡ true
bytes_same xs ys e = (bytes_eq-Decides xs ys).1 e

abbrev front_of : List ℕ → List ℕ → List ℕ
front_of ds body = begin_text ++ (ds ++ (1 ∷ body))

abbrev framed : List ℕ → List ℕ → List ℕ
framed ds body = front_of ds body ++ checksum_field (sum (front_of ds body) % 256)

front_len : (ds body : List ℕ) → length (front_of ds body) ≡ length ds + 13 + length body
front_len ds body = let h = length-append ds (1 ∷ body) in omega (arith, h)

abbrev header_of : List ℕ → List ℕ → FrameHeader
header_of ds body = record { body_start = length ds + 13; body_length = length body }

framed_header : (ds body : List ℕ) → is_body_length ds ≡ true → is_plain ds ≡ true → number_of ds ≡ length body
    → header (framed ds body) ≡ Some (header_of ds body)
framed_header ds body size plain number =
    header_is (framed ds body) ∙ ap header_after (append_assoc ds (1 ∷ body)
    (checksum_field (sum (front_of ds body) % 256)))
    ∙ header_spelled ds (body ++ checksum_field (sum (front_of ds body) % 256)) size plain
    ∙ ap (λ n. Some (record { body_start = length ds + 13; body_length = n })) number

abbrev lead : List ℕ → List ℕ
lead ds = begin_text ++ (ds ++ (1 ∷ []))

framed_split : (ds body t : List ℕ) → (begin_text ++ (ds ++ (1 ∷ body))) ++ t ≡ lead ds ++ (body ++ t)
framed_split ds body t = ap (λ x. begin_text ++ x)
    (append_assoc ds (1 ∷ body) t ∙ sym (append_assoc ds (1 ∷ []) (body ++ t)))

lead_len : (ds : List ℕ) → length (lead ds) ≡ length ds + 13
lead_len ds = let h = length-append ds (1 ∷ []) in omega (arith, h)

body_in : (ds body t : List ℕ) → body_at (front_of ds body ++ t) (header_of ds body) ≡ body
body_in ds body t =
    ap (λ x. take (length body) (drop (length ds + 13) x)) (framed_split ds body t)
    ∙ ap (take (length body)) (drop_at (lead ds) (body ++ t) (length ds + 13) (lead_len ds))
    ∙ take_at body t (length body) refl

intact_plain : (front t body : List ℕ) (c : FrameHeader) → length front ≡ c.body_start + c.body_length
    → t ≡ checksum_field (sum front % 256) → body_at (front ++ t) c ≡ body → is_body body ≡ true
    → is_intact (front ++ t) c ≡ true
intact_plain front t body c size tail at lawful =
    let seven : length t ≡ 7 = ap length tail in
    let len = length-append front t in
    let fits : leb (frame_length c) (length (front ++ t)) ≡ true = grind (arith, nat_tests) in
    let before = take_at front t (c.body_start + c.body_length) size in
    let behind_it = drop_at front t (c.body_start + c.body_length) size in
    let sums : bytes_eq (take 7 (drop (c.body_start + c.body_length) (front ++ t)))
    (checksum_field (sum (take (c.body_start + c.body_length) (front ++ t)) % 256)) ≡ true =
    bytes_same _ _ (ap (take 7) (behind_it ∙ tail) ∙ ap (λ x. checksum_field (sum x % 256)) (sym before)) in
    let sized : is_intact_by_size (front ++ t) c ≡ true =
    and_from _ _ (and_from _ _ fits (ap is_body at ∙ lawful)) sums in
    intact_is (front ++ t) c ∙ sized

framed_kept : (ds body : List ℕ) → is_body body ≡ true → is_intact (framed ds body) (header_of ds body) ≡ true
framed_kept ds body lawful =
    intact_plain (front_of ds body) (checksum_field (sum (front_of ds body) % 256)) body (header_of ds body)
    (front_len ds body) refl (body_in ds body (checksum_field (sum (front_of ds body) % 256))) lawful

framed_len : (ds body : List ℕ) → frame_length (header_of ds body) ≡ length (framed ds body)
framed_len ds body = let h = length-append ds (1 ∷ body) in let g =
    length-append (ds ++ (1 ∷ body)) (checksum_field (sum (front_of ds body) % 256)) in omega (arith, h, g)

framed_frame : (ds body : List ℕ) → is_body_length ds ≡ true → is_plain ds ≡ true → number_of ds ≡ length body
    → is_body body ≡ true → frame_at (framed ds body) ≡ Some (length (framed ds body))
framed_frame ds body size plain number lawful =
    ap (option_and_then (intact_length (framed ds body))) (framed_header ds body size plain number)
    ∙ ap (λ v. then_some v (frame_length (header_of ds body))) (framed_kept ds body lawful)
    ∙ ap Some (framed_len ds body)

framed_fields : (ds body : List ℕ) (fs : List TagValue) → is_body_length ds ≡ true → is_plain ds ≡ true
    → number_of ds ≡ length body → fields_of_body body ≡ Some fs → fields (framed ds body) ≡ fs
unfolding fields
framed_fields ds body fs size plain number reads =
    ap (λ o. unwrap_or (option_and_then (λ c. fields_of_body (body_at (framed ds body) c)) o) [])
    (framed_header ds body size plain number)
    ∙ ap (λ b. unwrap_or (fields_of_body b) []) (body_in ds body (checksum_field (sum (front_of ds body) % 256)))
    ∙ ap (λ r. unwrap_or r []) reads

-- ---- the law

len_small : (h : Head) (fs : List given.Field) → FitsMessage h fs → length (body_text h fs) < 2 ^ 64
len_small h fs fits = let most = fits.2 in omega (arith, most)

size_of : (n : ℕ) → 5 ≤ n → n ≤ 4096 → is_body_length (decimal n) ≡ true
size_of n low high =
    let small : n < 2 ^ 64 = omega (arith, high) in
    size_tests (decimal n) n (decimal_nonempty n small)
    (length-decimal-le 8 n (omega arith) (omega (arith, high)) small) (decimal_digits n small)
    (decimal_number n small) low high

pub written_frame : (h : Head) (fs : List given.Field) → FitsMessage h fs
    → frame_at (message_text h fs) ≡ Some (length (message_text h fs))
written_frame h fs fits =
    let body = body_text h fs in
    let small = len_small h fs fits in
    framed_frame (decimal (length body)) body (size_of (length body) (body_long h fs) fits.2)
    (decimal_plain (length body) small) (decimal_number (length body) small) (body_lawful h fs fits)

pub written_fields : (h : Head) (fs : List given.Field) → FitsMessage h fs
    → fields (message_text h fs) ≡ all_fields h fs
written_fields h fs fits =
    let body = body_text h fs in
    let small = len_small h fs fits in
    framed_fields (decimal (length body)) body (all_fields h fs) (size_of (length body) (body_long h fs) fits.2)
    (decimal_plain (length body) small) (decimal_number (length body) small) (body_row h fs fits)

pub read_first : (text more : List ℕ) → frame_at text ≡ Some (length text) → frames (text ++ more) ≡ text ∷ frames more
read_first text more e =
    scan_frame text more (length text) e
    ∙ ap (λ t. t ∷ frames (drop (length text) text ++ more)) (take_all (length text) text (omega arith))
    ∙ ap (λ t. text ∷ frames (t ++ more)) (drop_all (length text) text (omega arith))

-- the ranges that the types give, and what a caller knows of kind and tags
pub fits_together : (fs : List given.Field) → FitsTags fs → AllByRecursion FitsValueOf fs → AllByRecursion FitsField fs
fits_together [] tags values = tt
fits_together (f ∷ fs) tags values = ((tags.0.0, tags.0.1, values.0), fits_together fs tags.1 values.1)

pub read_back_is : (h : Head) (fs : List given.Field) → FitsMessage h fs → IsReadBack h fs
read_back_is h fs fits = record {
  lawful = written_frame h fs fits;
  same = written_fields h fs fits;
  first = λ more. read_first (message_text h fs) more (written_frame h fs fits);
}
