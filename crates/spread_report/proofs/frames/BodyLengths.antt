-- The body of a message with at most 18 fields has at most 4,096 bytes.
use Rattle.std.proofs.Common.{◌≡◌, ℕ, ◌+◌, ◌*◌, ◌/◌, ◌%◌, ◌<◌, ◌≤◌, ◌^◌, Bool, true, false, if◌then◌else◌, List, [], ◌∷◌, ◌++◌, length, ◌∙◌, arith, length-append}
use Rattle.std.specs.Prelude.{ℤ, pos, unsigned_abs, decimal, int_lt}
use Rattle.std.specs.List.{flat_map, AllByRecursion}
use Rattle.std.proofs.lemmas.Fmt.{length-decimal-le}
use Rattle.fix_wire.specs.declared.writer.Value.{Value}
use Rattle.fix_wire.specs.declared.writer.Value.TheVariants.{Text, Number, Price, Pair}
use Rattle.fix_wire.specs.declared.writer.Field as given
use Rattle.fix_wire.specs.declared.writer.Head.{Head}
use Rattle.fix_wire_values.specs.Digits.{two_digits}
use Rattle.fix_wire.specs.Layout.{value_text, field_text, field, head_fields, body_text, FitsValue, FitsField}
use Rattle.fix_wire.specs.code.Layout.{only_if}
use Rattle.fix_wire_values.specs.Values.{price_text}

-- a value of at most 41 bytes
pub record IsShort (f : given.Field) : Type 0 where
  pub tag : f.tag < 1000000000
  pub value : length (value_text f.value) ≤ 41

decimal_short : (n : ℕ) → n < 2 ^ 64 → length (decimal n) ≤ 20
decimal_short n h = length-decimal-le 20 n (omega arith) (omega (arith, h)) h

tag_short : (n : ℕ) → n < 1000000000 → length (decimal n) ≤ 9
tag_short n h = length-decimal-le 9 n (omega arith) (omega (arith, h)) (omega (arith, h))

text_short : (f : given.Field) → IsShort f → length (field_text f) ≤ 52
text_short f s =
    let a : length (field_text f) ≡ length (decimal f.tag ++ (61 ∷ value_text f.value)) + 1 =
    length-append (decimal f.tag ++ (61 ∷ value_text f.value)) (1 ∷ []) in
    let b : length (decimal f.tag ++ (61 ∷ value_text f.value)) ≡ length (decimal f.tag) +
    (length (value_text f.value) + 1) = length-append (decimal f.tag) (61 ∷ value_text f.value) ∙ omega arith in
    omega (arith, a, b, tag_short f.tag s.tag, s.value)

row_short : (fs : List given.Field) → AllByRecursion IsShort fs → length (flat_map field_text fs) ≤ 52 * length fs
row_short [] s = omega arith
row_short (f ∷ fs) s = omega (
  arith,
  length-append (field_text f) (flat_map field_text fs),
  text_short f s.0,
  row_short fs s.1,
)

-- what a value's range says of its length
abbrev pub IsShortText : Value → Type 0
IsShortText (Text id) = length id ≤ 32
IsShortText (Number n) = Unit {0}
IsShortText (Price z) = Unit {0}
IsShortText (Pair a b) = Unit {0}

abbrev sign_of : Bool → List ℕ
sign_of b = if b then 45 ∷ [] else []

sign_short : (b : Bool) → length (sign_of b) ≤ 1
sign_short true = omega arith
sign_short false = omega arith

price_short : (z : ℤ) → unsigned_abs z < 2 ^ 64 → length (price_text z) ≤ 41
price_short z h =
    let whole : length (decimal (unsigned_abs z / 100)) ≤ 20 =
    decimal_short (unsigned_abs z / 100) (omega (arith, h)) in
    let sign : length (sign_of (int_lt z (pos 0))) ≤ 1 = sign_short (int_lt z (pos 0)) in
    let a = length-append (sign_of (int_lt z (pos 0)))
    (decimal (unsigned_abs z / 100) ++ (46 ∷ two_digits (unsigned_abs z % 100))) in
    let b = length-append (decimal (unsigned_abs z / 100)) (46 ∷ two_digits (unsigned_abs z % 100)) in
    omega (arith, whole, sign, a, b)

value_short : (v : Value) → FitsValue v → IsShortText v → length (value_text v) ≤ 41
value_short (Text id) h s = omega (arith, s)
value_short (Number n) h s = omega (arith, decimal_short n h)
value_short (Price z) h s = price_short z h
value_short (Pair a b) h s = omega (
  arith,
  length-append (decimal a) (45 ∷ decimal b),
  decimal_short a h.0,
  decimal_short b h.1,
)

-- a field in range, its text of at most 32 bytes
pub record FitsReport (f : given.Field) : Type 0 where
  pub fits : FitsField f
  pub short : IsShortText f.value

pub fields_fit : (fs : List given.Field) → AllByRecursion FitsReport fs → AllByRecursion FitsField fs
fields_fit [] a = tt
fields_fit (f ∷ fs) a = (a.0.fits, fields_fit fs a.1)

fields_short : (fs : List given.Field) → AllByRecursion FitsReport fs → AllByRecursion IsShort fs
fields_short [] a = tt
fields_short (f ∷ fs) a = (
  record { tag = a.0.fits.1; value = value_short f.value a.0.fits.2 a.0.short },
  fields_short fs a.1,
)

all_append : (fs gs : List given.Field) → AllByRecursion IsShort fs → AllByRecursion IsShort gs
    → AllByRecursion IsShort (fs ++ gs)
all_append [] gs a b = b
all_append (f ∷ fs) gs a b = (a.0, all_append fs gs a.1 b)

-- the ids of a head have at most 32 bytes
pub record IsShortHead (h : Head) : Type 0 where
  pub number : h.number < 2 ^ 64
  pub sender : length h.sender ≤ 32
  pub target : length h.target ≤ 32
  pub stamp : length h.stamp ≤ 32

only_short : (d : Bool) (f : given.Field) → IsShort f → AllByRecursion IsShort (only_if d f)
only_short true f s = (s, tt)
only_short false f s = tt

only_length : (d : Bool) (f : given.Field) → length (only_if d f) ≤ 1
only_length true f = omega arith
only_length false f = omega arith

head_short : (h : Head) → IsShortHead h → AllByRecursion IsShort (head_fields h)
head_short h s =
    all_append (field 35 (Text (h.kind ∷ [])) ∷ field 34 (Number h.number) ∷ [])
    (only_if h.duplicate (field 43 (Text (89 ∷ []))) ++
    ((field 49 (Text h.sender) ∷ field 52 (Text h.stamp) ∷ field 56 (Text h.target) ∷ [])
    ++ only_if h.duplicate (field 122 (Text h.stamp)))) (
      record { tag = omega arith; value = omega arith },
      (record { tag = omega arith; value = omega (arith, decimal_short h.number s.number) }, tt),
    )
    (all_append (only_if h.duplicate (field 43 (Text (89 ∷ []))))
    ((field 49 (Text h.sender) ∷ field 52 (Text h.stamp) ∷ field 56 (Text h.target) ∷ [])
    ++ only_if h.duplicate (field 122 (Text h.stamp)))
    (only_short h.duplicate (field 43 (Text (89 ∷ []))) (record { tag = omega arith; value = omega arith }))
    (all_append (field 49 (Text h.sender) ∷ field 52 (Text h.stamp) ∷ field 56 (Text h.target) ∷ [])
    (only_if h.duplicate (field 122 (Text h.stamp))) (
      record { tag = omega arith; value = omega (arith, s.sender) },
      (
        record { tag = omega arith; value = omega (arith, s.stamp) },
        (record { tag = omega arith; value = omega (arith, s.target) }, tt),
      ),
    )
    (only_short h.duplicate (field 122 (Text h.stamp)) (record { tag = omega arith; value = omega (arith, s.stamp) }))))

head_length : (h : Head) → length (head_fields h) ≤ 7
head_length h =
    let a = only_length h.duplicate (field 43 (Text (89 ∷ []))) in
    let b = only_length h.duplicate (field 122 (Text h.stamp)) in
    let c = length-append (only_if h.duplicate (field 43 (Text (89 ∷ []))))
    ((field 49 (Text h.sender) ∷ field 52 (Text h.stamp) ∷ field 56 (Text h.target) ∷ [])
    ++ only_if h.duplicate (field 122 (Text h.stamp))) in
    omega (arith, a, b, c)

pub body_short : (h : Head) (fs : List given.Field) → IsShortHead h → AllByRecursion FitsReport fs → length fs ≤ 18
    → length (body_text h fs) ≤ 4096
body_short h fs s a few =
    let all : AllByRecursion IsShort (head_fields h ++ fs) =
    all_append (head_fields h) fs (head_short h s) (fields_short fs a) in
    let n : length (head_fields h ++ fs) ≡ length (head_fields h) + length fs = length-append (head_fields h) fs in
    omega (arith, row_short (head_fields h ++ fs) all, n, few, head_length h)
