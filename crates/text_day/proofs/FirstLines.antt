-- The first line of a text, and the whole lines that two texts begin with.
use Rattle.std.proofs.Common.{◌≡◌, ◌≢◌, ℕ, ◌+◌, ◌≤◌, ◌==◌, true, false, Bool, List, [], ◌∷◌, ◌++◌, length, length-append, take, subst, suc, if◌then◌else◌, refl, sym, ap, ◌∙◌, arith, append_assoc}
use Rattle.std.specs.List.{concat}
use Rattle.std.proofs.lemmas.List.{append-nil}
use Rattle.std.proofs.lemmas.List.Elements.{All-append, All-cons, All-nil}
use Rattle.std.proofs.lemmas.List.Folds.{concat-append}
use Rattle.std.proofs.lemmas.Bool.Decides.{nat_tests}
use Rattle.spread_rules_ids.specs.Cut.{Lacks}
use Rattle.spread_rules_ids.proofs.Cuts.{cut_once}
use Rattle.text_day.specs.Differences.{first_line, IsWholeLine, HasPassed}

not_ten : (b : ℕ) → b ≢ 10 → (b == 10) ≡ false
not_ten b h = grind (arith, nat_tests)

-- a text up to its first line feed, and with it, is its first line
pub line_ends : (a x : List ℕ) → Lacks 10 a → first_line (a ++ 10 ∷ x) ≡ a ++ 10 ∷ []
line_ends [] x h = refl
line_ends (b ∷ bs) x h = let rest = line_ends bs x h.1 in let no : (b == 10) ≡ false = not_ten b h.0 in
    rw (no, rest) refl

-- and a text without a line feed is one line
pub line_is_all : (a : List ℕ) → Lacks 10 a → first_line a ≡ a
line_is_all [] h = refl
line_is_all (b ∷ bs) h = let rest = line_is_all bs h.1 in let no : (b == 10) ≡ false = not_ten b h.0 in
    rw (no, rest) refl

pub taken : (a x : List ℕ) → take (suc (length a)) (a ++ 10 ∷ x) ≡ a ++ 10 ∷ []
taken [] x = refl
taken (b ∷ bs) x = ap (λ (l : List ℕ). b ∷ l) (taken bs x)

lacking_rest : (bs : List ℕ) (c : Bool) → c ≡ false → Lacks 10 (if c then [] else first_line bs)
    → Lacks 10 (first_line bs)
lacking_rest bs true e h = cc
lacking_rest bs false e h = h

-- a first line without a line feed is all of the text
all_is_line : (ys : List ℕ) → Lacks 10 (first_line ys) → first_line ys ≡ ys
all_is_line [] h = refl
all_is_line (b ∷ bs) h =
    let no : (b == 10) ≡ false = not_ten b h.0 in
    let rest = all_is_line bs (lacking_rest bs (b == 10) no h.1) in rw (no, rest) refl

-- texts of which one has no line feed have the same first line only where they are the same
pub same_line_same : (xs ys : List ℕ) → Lacks 10 xs → first_line xs ≡ first_line ys → xs ≡ ys
same_line_same xs ys h e =
    let line : xs ≡ first_line ys = sym (line_is_all xs h) ∙ e in
    let lacks : Lacks 10 (first_line ys) = subst (λ (l : List ℕ). Lacks 10 l) line h in
    line ∙ all_is_line ys lacks

-- texts cut behind other lines have another first line
pub other_lines : (a b x y xs ys : List ℕ) → xs ≡ a ++ 10 ∷ x → ys ≡ b ++ 10 ∷ y → Lacks 10 a → Lacks 10 b → a ≢ b
    → first_line xs ≢ first_line ys
other_lines a b x y xs ys in_xs in_ys la lb differ same =
    let ended : (a ++ 10 ∷ []) ≡ (b ++ 10 ∷ []) =
    sym (line_ends a x la) ∙ (ap first_line (sym in_xs) ∙ (same ∙ (ap first_line in_ys ∙ line_ends b y lb))) in
    differ (cut_once 10 a b [] [] ended la lb).0

-- nothing was passed yet
pub none_passed : (claim right : List ℕ) → HasPassed claim right claim right 1
none_passed claim right = record {
  lines = [];
  whole = All-nil IsWholeLine;
  in_claim = refl;
  in_right = refl;
  number_is = refl;
}

-- one more line was passed
pub one_passed : (claim right c r c2 r2 line : List ℕ) (n : ℕ) → HasPassed claim right c r n → IsWholeLine line
    → c ≡ line ++ c2 → r ≡ line ++ r2 → HasPassed claim right c2 r2 (n + 1)
one_passed claim right c r c2 r2 line n h whole in_c in_r =
    let joined : concat (h.lines ++ line ∷ []) ≡ concat h.lines ++ line =
    concat-append h.lines (line ∷ []) ∙ ap (λ (l : List ℕ). concat h.lines ++ l) (append-nil line) in
    let behind : (t t2 : List ℕ) → t ≡ line ++ t2 → concat h.lines ++ t ≡ concat (h.lines ++ line ∷ []) ++ t2 =
    λ t t2 e. ap (λ (l : List ℕ). concat h.lines ++ l) e
    ∙ (sym (append_assoc (concat h.lines) line t2) ∙ ap (λ (l : List ℕ). l ++ t2) (sym joined)) in
    record {
      lines = h.lines ++ line ∷ [];
      whole = All-append IsWholeLine h.lines (line ∷ []) h.whole
          (All-cons IsWholeLine line [] whole (All-nil IsWholeLine));
      in_claim = h.in_claim ∙ behind c c2 in_c;
      in_right = h.in_right ∙ behind r r2 in_r;
      number_is = omega (arith, h.number_is, length-append {A = List ℕ});
    }

-- what was passed is the same, so the rests differ
pub rests_differ : (claim right c r : List ℕ) (n : ℕ) → HasPassed claim right c r n → claim ≢ right → c ≢ r
rests_differ claim right c r n h differ same =
    differ (h.in_claim ∙ (ap (λ (l : List ℕ). concat h.lines ++ l) same ∙ sym h.in_right))

-- a whole line has bytes
pub line_has_bytes : (line : List ℕ) → IsWholeLine line → 1 ≤ length line
line_has_bytes line h = omega (arith, ap length h.ended, length-append {A = ℕ})
