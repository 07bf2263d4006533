-- Where a claimed text begins to differ from the right one, by lines.
use Rattle.std.specs.Prelude.{◌≡◌, ◌≢◌, ◌+◌, ◌==◌, ◌++◌, ℕ, List, [], ◌∷◌, All, length, if◌then◌else◌}
use Rattle.std.specs.List.{concat}
use Rattle.spread_rules_ids.specs.Cut.{Lacks}

abbrev pub line_feed : ℕ
line_feed = 10

-- the first line of a text, with its line feed where it has one
abbrev pub first_line : List ℕ → List ℕ
first_line [] = []
first_line (b ∷ bs) = b ∷ (if b == line_feed then [] else first_line bs)

-- a line and its line feed
pub record IsWholeLine (line : List ℕ) : Type 0 where
  pub bytes : List ℕ
  pub one : Lacks line_feed bytes
  pub ended : line ≡ bytes ++ line_feed ∷ []

-- Both texts begin with the same whole lines, and go on with these rests, whose first line has that number.
pub record HasPassed
    (claim right claim_rest right_rest : List ℕ) (number : ℕ) : Type 0 where
  pub lines : List (List ℕ)
  pub whole : All IsWholeLine lines
  pub in_claim : claim ≡ concat lines ++ claim_rest
  pub in_right : right ≡ concat lines ++ right_rest
  pub number_is : number ≡ length lines + 1

-- The line of that number is the first that is another: in the right text it is this one.
pub record DiffersFirst (claim right : List ℕ) (number : ℕ) (line : List ℕ) : Type 0 where
  pub claim_rest : List ℕ
  pub right_rest : List ℕ
  pub before : HasPassed claim right claim_rest right_rest number
  pub line_is : line ≡ first_line right_rest
  pub other : first_line claim_rest ≢ line
