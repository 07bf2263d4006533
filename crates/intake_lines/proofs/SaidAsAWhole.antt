-- What a text says, line by line, is what it says as a whole.
use Rattle.std.proofs.Common.{◌≡◌, ℕ, ◌+◌, Bool, true, false, cond, ◌&&◌, ◌||◌, not, eqb, List, [], ◌∷◌, ◌++◌, length, Option, Some, None, Result, Ok, Err, option_map, refl, ap, ◌∙◌, arith}
use Rattle.std.specs.List.{list_any, flat_map, position_or_len}
use Rattle.std.specs.Option.{option_to_list}
use Rattle.std.proofs.lemmas.Bool.Decides.{nat_tests}
use Rattle.fix_wire_frames.specs.Texts.{with_soh}
use Rattle.intake_lines.specs.LineText.{DayLine, session_line, is_bad, day_lines_of}
use Rattle.intake_lines.specs.code.LineText.{is_passed_over}
use Rattle.intake_lines.proofs.LineOfASession.{by_number}
use Rattle.intake_lines.specs.code.OneByOne.{line_by_bytes, lines_of, prepend, line_and_later, session_lines, lines_said}

-- the lines of a text, or the number of its first bad line
abbrev answer : Bool → ℕ → List DayLine → Result (List DayLine) ℕ
answer any n ls = cond any (Err n) (Ok ls)

behind : (any : Bool) (n : ℕ) (done ls : List DayLine) → prepend done (answer any n ls) ≡ answer any n (done ++ ls)
behind true n done ls = refl
behind false n done ls = refl

-- the same, with what one line says in front
abbrev with_front : Bool → Bool → ℕ → ℕ → List DayLine → List DayLine → Result (List DayLine) ℕ
with_front passed any n place says ls = answer ((not passed && eqb (length says) 0) || any)
    (cond (not (not passed && eqb (length says) 0)) (1 + place) 0 + n) (says ++ ls)

-- one line in front of others
in_front : (n place : ℕ) (v any : Bool) (o : Option DayLine) (ls : List DayLine) (later : Result (List DayLine) ℕ)
    → (v ≡ true → o ≡ None) → later ≡ answer any (place + (n + 1)) ls →
    line_and_later n (cond v (Some []) (option_map (λ l. l ∷ []) o)) later ≡ with_front v any n place (option_to_list o)
    ls
in_front n place true any None ls later silent ih =
    let same : place + (n + 1) ≡ 1 + place + n = omega arith in
    ap (prepend []) ih ∙ behind any (place + (n + 1)) [] ls ∙ ap (λ k. answer any k ls) same
in_front n place true any (Some l) ls later silent ih = let no : Some l ≡ None = silent refl in cc
in_front n place false any None ls later silent ih = let same : n ≡ 0 + n = omega arith in
    ap (λ (k : ℕ). let r : Result (List DayLine) ℕ = Err k in r) same
in_front n place false any (Some l) ls later silent ih =
    let same : place + (n + 1) ≡ 1 + place + n = omega arith in
    ap (prepend (l ∷ [])) ih ∙ behind any (place + (n + 1)) (l ∷ []) ls ∙ ap (λ k. answer any k (l ∷ ls)) same

-- a line that is passed over is of no session
passed_silent : (line : List ℕ) → is_passed_over line ≡ true → line_by_bytes line ≡ None
passed_silent [] e = refl
passed_silent (a ∷ []) e = refl
passed_silent (a ∷ b ∷ rest) e = let is : a ≡ 35 = grind (arith, nat_tests) in rw is

-- a line that is neither passed over nor of a session
abbrev is_neither : List ℕ → Bool
is_neither line = not (is_passed_over line) && eqb (length (session_line line)) 0

-- it is a bad one
neither_is : (line : List ℕ) → is_neither line ≡ is_bad line
neither_is [] = refl
neither_is (b ∷ bs) = refl

at_once : (n : ℕ) (ls : List (List ℕ)) → session_lines n ls ≡ answer (list_any is_neither ls)
    (position_or_len is_neither ls + n) (flat_map session_line ls)
at_once n [] = refl
at_once n (l ∷ ls) =
    let any = list_any is_neither ls in
    let place = position_or_len is_neither ls in
    in_front n place (is_passed_over l) any (line_by_bytes l) (flat_map session_line ls) (session_lines (n + 1) ls)
    (passed_silent l) (at_once (n + 1) ls)
    ∙ ap (λ (says : List DayLine). with_front (is_passed_over l) any n place says (flat_map session_line ls))
    (by_number l)

bad_ones : (ls : List (List ℕ)) → answer (list_any is_neither ls) (position_or_len is_neither ls + 1)
    (flat_map session_line ls) ≡ answer (list_any is_bad ls) (position_or_len is_bad ls + 1) (flat_map session_line ls)
bad_ones ls = λ i. answer (list_any (λ l. neither_is l i) ls) (position_or_len (λ l. neither_is l i) ls + 1)
    (flat_map session_line ls)

pub said_at_once : (text : List ℕ) → lines_said (with_soh text) ≡ day_lines_of text
said_at_once text = at_once 1 (lines_of (with_soh text)) ∙ bad_ones (lines_of (with_soh text))
