-- A line's session, as its bytes are compared one by one, is the one whose number it begins with.
use Rattle.std.proofs.Common.{◌≡◌, ◌≢◌, ℕ, zero, suc, ◌+◌, ◌-◌, ◌/◌, ◌%◌, ◌<◌, ◌≤◌, Bool, true, false, cond, eqb, ltb, leb, List, [], ◌∷◌, ◌++◌, length-append, Option, Some, None, option_map, refl, sym, ap, ◌∙◌, subst, arith, ◌⊎◌, inl, inr}
use Rattle.std.proofs.lemmas.Fmt.{decimal_digit, decimal_step}
use Rattle.std.specs.Char.{is_ascii_digit}
use Rattle.std.specs.Prelude.{◌&&◌, nat_eq, decimal, drop, filter, filter_map, length, map}
use Rattle.std.specs.List.{cons_option, range_with_len, starts_with}
use Rattle.std.specs.Option.{option_to_list}
use Rattle.std.proofs.lemmas.Bool.{cases_lt}
use Rattle.std.proofs.lemmas.Bool.Decides.{nat_tests}
use Rattle.fix_wire_frames.specs.code.Texts.{stripped}
use Rattle.fix_wire_frames.proofs.texts.WordAtTheFront.{behind_is}
use Rattle.intake_lines.specs.LineText.{DayLine, session_line}
use Rattle.intake_lines.specs.code.OneByOne.{day_line, line_by_bytes}

-- a session's number from 0 to 15, and a colon
abbrev word : ℕ → List ℕ
word s = cond (ltb s 10) ((48 + s) ∷ 58 ∷ []) (49 ∷ (38 + s) ∷ 58 ∷ [])

word_is : (s : ℕ) → s < 16 → decimal s ++ 58 ∷ [] ≡ word s
word_is s h = by_size (cases_lt s 10)
  where
    by_size : (s < 10) ⊎ (10 ≤ s) → decimal s ++ 58 ∷ [] ≡ word s
    by_size (inl l) = let t : ltb s 10 ≡ true = grind (arith, nat_tests) in
        rw t (ap (λ w. w ++ 58 ∷ []) (decimal_digit s l))
    by_size (inr l) =
        let t : ltb s 10 ≡ false = grind (arith, nat_tests) in
        let ten : s / 10 ≡ 1 = omega arith in
        let ones : 48 + s % 10 ≡ 38 + s = omega arith in
        let two : decimal s ≡ 49 ∷ (38 + s) ∷ [] =
        decimal_step s l (omega (arith, h)) ∙ (ap (λ k. decimal k ++ (48 + s % 10) ∷ []) ten
        ∙ (ap (λ w. w ++ (48 + s % 10) ∷ []) (decimal_digit 1 (omega arith)) ∙ ap (λ k. 49 ∷ k ∷ []) ones)) in
        rw t (ap (λ w. w ++ 58 ∷ []) two)

abbrev by_words : ℕ → ℕ → List ℕ → List DayLine
by_words a n line = filter_map (λ s. option_map (day_line s) (stripped (word s) line)) (range_with_len a n)

words_are : (a n : ℕ) (line : List ℕ) → a + n ≤ 16
    → filter_map (λ s. option_map (day_line s) (stripped (decimal s ++ 58 ∷ []) line)) (range_with_len a n) ≡ by_words a
    n line
words_are a zero line h = refl
words_are a (suc n) line h =
    ap (λ (w : List ℕ). cons_option (option_map (day_line a) (stripped w line))
    (filter_map (λ s. option_map (day_line s) (stripped (decimal s ++ 58 ∷ []) line)) (range_with_len (a + 1) n)))
    (word_is a (omega (arith, h)))
    ∙ ap (cons_option (option_map (day_line a) (stripped (word a) line))) (words_are (a + 1) n line (omega (arith, h)))

abbrev IsSame : List ℕ → Type 0
IsSame line = option_to_list (line_by_bytes line) ≡ by_words 0 16 line

none_both : (v : Bool) → cond {A = Option (List ℕ)} v None None ≡ None
none_both true = refl
none_both false = refl

single : (o : Option DayLine) → option_to_list o ≡ cons_option o []
single None = refl
single (Some l) = refl

-- a session of one digit
one_digit : (s b : ℕ) (rest : List ℕ) → option_to_list (cond (eqb b 58) (Some (day_line s rest)) None) ≡ cons_option
    (option_map (day_line s) (cond (eqb 58 b) (Some rest) None)) []
one_digit s b rest = by_test (eqb b 58) (eqb 58 b) same
  where
    by_test : (v w : Bool) → v ≡ w → option_to_list (cond v (Some (day_line s rest)) None) ≡ cons_option
        (option_map (day_line s) (cond w (Some rest) None)) []
    by_test true true e = refl
    by_test false false e = refl
    by_test true false e = cc
    by_test false true e = cc

    same : eqb b 58 ≡ eqb 58 b
    same = grind (arith, nat_tests)

-- a byte behind a 1 that is neither a colon nor a digit up to 5
no_session : (b : ℕ) (rest : List ℕ) → b ≢ 58 → (b < 48) ⊎ (53 < b) → IsSame (49 ∷ b ∷ rest)
no_session b rest other far =
    let c : eqb b 58 ≡ false = grind (arith, nat_tests) in
    let d : eqb 58 b ≡ false = grind (arith, nat_tests) in
    let r : (leb 48 b && leb b 53) ≡ false = grind (arith, nat_tests) in
    let b48 : eqb 48 b ≡ false = grind (arith, nat_tests) in
    let b49 : eqb 49 b ≡ false = grind (arith, nat_tests) in
    let b50 : eqb 50 b ≡ false = grind (arith, nat_tests) in
    let b51 : eqb 51 b ≡ false = grind (arith, nat_tests) in
    let b52 : eqb 52 b ≡ false = grind (arith, nat_tests) in
    let b53 : eqb 53 b ≡ false = grind (arith, nat_tests) in
    simp (c, d, r, b48, b49, b50, b51, b52, b53)

-- the digits up to 5
teen : (k : ℕ) (rest : List ℕ) → k < 6 → IsSame (49 ∷ (48 + k) ∷ rest)
teen zero rest h = single (option_map (day_line 10) (stripped (58 ∷ []) rest))
teen (suc zero) rest h = single (option_map (day_line 11) (stripped (58 ∷ []) rest))
teen (suc (suc zero)) rest h = single (option_map (day_line 12) (stripped (58 ∷ []) rest))
teen (suc (suc (suc zero))) rest h = single (option_map (day_line 13) (stripped (58 ∷ []) rest))
teen (suc (suc (suc (suc zero)))) rest h = single (option_map (day_line 14) (stripped (58 ∷ []) rest))
teen (suc (suc (suc (suc (suc zero))))) rest h = single (option_map (day_line 15) (stripped (58 ∷ []) rest))
teen (suc (suc (suc (suc (suc (suc k)))))) rest h = absurd (omega (arith, h))

behind_one : (b : ℕ) (rest : List ℕ) → IsSame (49 ∷ b ∷ rest)
behind_one b rest = by_place (cases_lt b 48) (cases_lt 53 b)
  where
    by_colon : (b < 48) ⊎ (53 < b) → (v : Bool) → eqb b 58 ≡ v → IsSame (49 ∷ b ∷ rest)
    by_colon far true e = let is : b ≡ 58 = grind (arith, nat_tests) in
        subst (λ x. IsSame (49 ∷ x ∷ rest)) (sym is) refl
    by_colon far false e = let other : b ≢ 58 = grind (arith, nat_tests) in no_session b rest other far

    by_place : (b < 48) ⊎ (48 ≤ b) → (53 < b) ⊎ (b ≤ 53) → IsSame (49 ∷ b ∷ rest)
    by_place (inl low) u = by_colon (inl low) (eqb b 58) refl
    by_place (inr l) (inl high) = by_colon (inr high) (eqb b 58) refl
    by_place (inr l) (inr h) =
        let is : 48 + (b - 48) ≡ b = omega arith in
        subst (λ x. IsSame (49 ∷ x ∷ rest)) is (teen (b - 48) rest (omega arith))

digit : (k b : ℕ) (rest : List ℕ) → k < 10 → IsSame ((48 + k) ∷ b ∷ rest)
digit zero b rest h = one_digit 0 b rest
digit (suc zero) b rest h = behind_one b rest
digit (suc (suc zero)) b rest h = one_digit 2 b rest
digit (suc (suc (suc zero))) b rest h = one_digit 3 b rest
digit (suc (suc (suc (suc zero)))) b rest h = one_digit 4 b rest
digit (suc (suc (suc (suc (suc zero))))) b rest h = one_digit 5 b rest
digit (suc (suc (suc (suc (suc (suc zero)))))) b rest h = one_digit 6 b rest
digit (suc (suc (suc (suc (suc (suc (suc zero))))))) b rest h = one_digit 7 b rest
digit (suc (suc (suc (suc (suc (suc (suc (suc zero)))))))) b rest h = one_digit 8 b rest
digit (suc (suc (suc (suc (suc (suc (suc (suc (suc zero))))))))) b rest h = one_digit 9 b rest
digit (suc (suc (suc (suc (suc (suc (suc (suc (suc (suc k)))))))))) b rest h = absurd (omega (arith, h))

no_digit : (a b : ℕ) (rest : List ℕ) → (a < 48) ⊎ (57 < a) → IsSame (a ∷ b ∷ rest)
no_digit a b rest far =
    let d : is_ascii_digit a ≡ false = grind (arith, nat_tests) in
    let n : eqb a 49 ≡ false = grind (arith, nat_tests) in
    let a48 : eqb 48 a ≡ false = grind (arith, nat_tests) in
    let a49 : eqb 49 a ≡ false = grind (arith, nat_tests) in
    let a50 : eqb 50 a ≡ false = grind (arith, nat_tests) in
    let a51 : eqb 51 a ≡ false = grind (arith, nat_tests) in
    let a52 : eqb 52 a ≡ false = grind (arith, nat_tests) in
    let a53 : eqb 53 a ≡ false = grind (arith, nat_tests) in
    let a54 : eqb 54 a ≡ false = grind (arith, nat_tests) in
    let a55 : eqb 55 a ≡ false = grind (arith, nat_tests) in
    let a56 : eqb 56 a ≡ false = grind (arith, nat_tests) in
    let a57 : eqb 57 a ≡ false = grind (arith, nat_tests) in
    simp (d, n, a48, a49, a50, a51, a52, a53, a54, a55, a56, a57)

by_word : (line : List ℕ) → IsSame line
by_word [] = refl
by_word (a ∷ []) = simp none_both
by_word (a ∷ b ∷ rest) = by_place (cases_lt a 48) (cases_lt 57 a)
  where
    by_place : (a < 48) ⊎ (48 ≤ a) → (57 < a) ⊎ (a ≤ 57) → IsSame (a ∷ b ∷ rest)
    by_place (inl low) u = no_digit a b rest (inl low)
    by_place (inr l) (inl high) = no_digit a b rest (inr high)
    by_place (inr l) (inr h) =
        let is : 48 + (a - 48) ≡ a = omega arith in
        subst (λ x. IsSame (x ∷ b ∷ rest)) is (digit (a - 48) b rest (omega arith))

-- the sessions whose number and colon the line begins with
abbrev leading : List ℕ → ℕ → Bool
leading line s = starts_with nat_eq line (decimal s ++ 58 ∷ [])

abbrev behind : List ℕ → ℕ → DayLine
behind line s = day_line s (drop (length (decimal s) + 1) line)

by_leads : (line : List ℕ) (ns : List ℕ) → filter_map
    (λ s. option_map (day_line s) (stripped (decimal s ++ 58 ∷ []) line)) ns ≡ map (behind line)
    (filter (leading line) ns)
by_leads line [] = refl
by_leads line (s ∷ ns) =
    let later = filter_map (λ n. option_map (day_line n) (stripped (decimal n ++ 58 ∷ []) line)) ns in
    ap (λ (o : Option (List ℕ)). cons_option (option_map (day_line s) o) later) (behind_is (decimal s ++ 58 ∷ []) line)
    ∙ by_test (leading line s) later (filter (leading line) ns) (by_leads line ns)
  where
    by_test : (v : Bool) (later : List DayLine) (those : List ℕ) → later ≡ map (behind line) those →
        cons_option (option_map (day_line s) (cond v (Some (drop (length (decimal s ++ 58 ∷ [])) line)) None)) later ≡
        map (behind line) (cond v (s ∷ those) those)
    by_test true later those e =
        ap (λ (ls : List DayLine). day_line s (drop (length (decimal s ++ 58 ∷ [])) line) ∷ ls) e
        ∙ ap (λ (k : ℕ). day_line s (drop k line) ∷ map (behind line) those) (length-append (decimal s) (58 ∷ []))
    by_test false later those e = e

pub by_number : (line : List ℕ) → option_to_list (line_by_bytes line) ≡ session_line line
by_number line = by_word line ∙ (sym (words_are 0 16 line (omega arith)) ∙ by_leads line (range_with_len 0 16))
