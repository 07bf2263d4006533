-- Day lines are read line by line.
use Rattle.std.proofs.Common.{◌≡◌, ℕ, ◌+◌, ◌==◌, ◌≢◌, false, List, [], ◌∷◌, ◌++◌, Option, Some, None, Result, Ok, Err, refl, sym, ap, ◌∙◌, arith, append_assoc}
use Rattle.std.specs.Prelude.{option_map}
use Rattle.std.proofs.lemmas.List.{append-nil}
use Rattle.std.proofs.lemmas.Bool.Decides.{nat_tests}
use Rattle.spread_rules_ids.specs.Cut.{Lacks}
use Rattle.intake_lines.specs.LineText.{DayLine}
use Rattle.intake_lines.specs.code.OneByOne.{lines_of, one_line, prepend, line_and_later, session_lines}

not_ten : (b : ℕ) → b ≢ 10 → (b == 10) ≡ false
not_ten b h = grind (arith, nat_tests)

-- a text up to its first line end is its first line
pub lines_cut : (a x : List ℕ) → Lacks 10 a → lines_of (a ++ 10 ∷ x) ≡ a ∷ lines_of x
lines_cut [] x h = refl
lines_cut (b ∷ bs) x h = let rest = lines_cut bs x h.1 in let no : (b == 10) ≡ false = not_ten b h.0 in
    rw (no, rest) refl

-- and a text without a line end is one line
pub lines_last : (a : List ℕ) → Lacks 10 a → lines_of a ≡ a ∷ []
lines_last [] h = refl
lines_last (b ∷ bs) h = let rest = lines_last bs h.1 in let no : (b == 10) ≡ false = not_ten b h.0 in rw (no, rest) refl

behind_behind : (done says : List DayLine) (r : Result (List DayLine) ℕ)
    → prepend done (prepend says r) ≡ prepend (done ++ says) r
behind_behind done says (Err n) = refl
behind_behind done says (Ok ls) = ap (λ (l : List DayLine). let r : Result (List DayLine) ℕ = Ok l in r)
    (sym (append_assoc done says ls))

-- one more line was taken
took_one : (done next : List DayLine) (n : ℕ) (o : Option (List DayLine)) (later : Result (List DayLine) ℕ)
    → option_map (λ says. done ++ says) o ≡ Some next
    → prepend done (line_and_later n o later) ≡ prepend next later
took_one done next n None later t = cc
took_one done next n (Some says) later t = let e : done ++ says ≡ next = cc in behind_behind done says later
    ∙ ap (λ (d : List DayLine). prepend d later) e

pub took : (done next : List DayLine) (n : ℕ) (l : List ℕ) (ls : List (List ℕ))
    → option_map (λ says. done ++ says) (one_line l) ≡ Some next
    → prepend done (session_lines n (l ∷ ls)) ≡ prepend next (session_lines (n + 1) ls)
took done next n l ls t = took_one done next n (one_line l) (session_lines (n + 1) ls) t

-- a bad line
pub was_bad : (done : List DayLine) (n : ℕ) (l : List ℕ) (ls : List (List ℕ)) → one_line l ≡ None
    → prepend done (session_lines n (l ∷ ls)) ≡ Err n
was_bad done n l ls is = ap (λ (o : Option (List DayLine)). prepend done
    (line_and_later n o (session_lines (n + 1) ls))) is

-- before the first line nothing is done
pub behind_none : (r : Result (List DayLine) ℕ) → prepend [] r ≡ r
behind_none (Err n) = refl
behind_none (Ok ls) = refl

-- the last line was taken
pub last_took : (done next : List DayLine) (n : ℕ) (l : List ℕ)
    → option_map (λ says. done ++ says) (one_line l) ≡ Some next → prepend done (session_lines n (l ∷ [])) ≡ Ok next
last_took done next n l t = took done next n l [] t
    ∙ ap (λ (ls : List DayLine). let r : Result (List DayLine) ℕ = Ok ls in r) (append-nil next)
