-- One of the bytes that are allowed, as the code looks for it.
use Rattle.std.proofs.Common.{◌≡◌, ℕ, ◌<◌, ◌≤◌, Bool, true, false, cond, ◌&&◌, ◌||◌, eqb, List, [], ◌∷◌, Option, Some, Ok, Err, Result, find, length, get_or, refl, sym, ap, ◌∙◌, arith}
use Rattle.std.specs.Prelude.{ok_or}
use Rattle.std.specs.List.{list_any}
use Rattle.std.specs.Str.{bytes_eq}
use Rattle.std.proofs.Math.Bool.{and-false}
use Rattle.std.proofs.lemmas.Bool.{eqb-true}
use Rattle.std.proofs.lemmas.Bool.Decides.{nat_tests}
use Rattle.fix_session_kinds.specs.code.Readers.{one_of}

-- the byte that was found, or a value out of range
abbrev or_out : Option ℕ → Result ℕ ℕ
or_out o = ok_or o 5

-- a text of one byte
one_byte : (b : ℕ) (allowed : List ℕ) → one_of allowed (b ∷ []) ≡ cond (list_any (λ a. eqb a b) allowed) (Ok b) (Err 5)
one_byte b [] = refl
one_byte b (a ∷ more) = by_test (one_byte b more) (eqb a b) refl
  where
    by_test : one_of more (b ∷ []) ≡ cond (list_any (λ x. eqb x b) more) (Ok b) (Err 5) → (v : Bool) → eqb a b ≡ v
        → or_out (cond (eqb b a && true) (Some a) (find (λ x. bytes_eq (b ∷ []) (x ∷ [])) more)) ≡ cond
        (v || list_any (λ x. eqb x b) more) (Ok b) (Err 5)
    by_test ih true e =
        let here : eqb b a ≡ true = grind (arith, nat_tests) in
        ap (λ x. or_out (cond (x && true) (Some a) (find (λ y. bytes_eq (b ∷ []) (y ∷ [])) more))) here
        ∙ ap Ok (eqb-true a b e)
    by_test ih false e =
        let other : eqb b a ≡ false = grind (arith, nat_tests) in
        ap (λ x. or_out (cond (x && true) (Some a) (find (λ y. bytes_eq (b ∷ []) (y ∷ [])) more))) other ∙ ih

-- a text of one byte that is allowed
pub byte_found : (text allowed : List ℕ) → 1 ≤ length text → length text < 2
    → list_any (λ a. eqb a (get_or text 0 0)) allowed ≡ true → Ok (get_or text 0 0) ≡ one_of allowed text
byte_found [] allowed some few e = absurd (omega arith)
byte_found (b ∷ []) allowed some few e = sym (one_byte b allowed ∙ ap (λ v. cond v (Ok b) (Err 5)) e)
byte_found (b ∷ c ∷ cs) allowed some few e = absurd (omega arith)

-- a text of one byte that is not
pub byte_not_found : (text allowed : List ℕ) → 1 ≤ length text → length text < 2
    → list_any (λ a. eqb a (get_or text 0 0)) allowed ≡ false → Err 5 ≡ one_of allowed text
byte_not_found [] allowed some few e = absurd (omega arith)
byte_not_found (b ∷ []) allowed some few e = sym (one_byte b allowed ∙ ap (λ v. cond v (Ok b) (Err 5)) e)
byte_not_found (b ∷ c ∷ cs) allowed some few e = absurd (omega arith)

-- no byte
pub no_byte : (text allowed : List ℕ) → length text < 1 → Err 5 ≡ one_of allowed text
no_byte [] [] none = refl
no_byte [] (a ∷ more) none = no_byte [] more none
no_byte (b ∷ bs) allowed none = absurd (omega arith)

-- two bytes or more
pub more_bytes : (text allowed : List ℕ) → 2 ≤ length text → Err 5 ≡ one_of allowed text
more_bytes [] allowed many = absurd (omega arith)
more_bytes (b ∷ []) allowed many = absurd (omega arith)
more_bytes (b ∷ c ∷ cs) [] many = refl
more_bytes (b ∷ c ∷ cs) (a ∷ more) many =
    more_bytes (b ∷ c ∷ cs) more many
    ∙ sym (ap (λ x. or_out (cond x (Some a) (find (λ y. bytes_eq (b ∷ c ∷ cs) (y ∷ [])) more))) (and-false (eqb b a)))
