-- Lists whose last item may be a mark, and no other.
use Rattle.std.proofs.Common.{◌≡◌, ◌∙◌, sym, ap, refl, Bool, true, false, List, [], ◌∷◌, ◌++◌, length, drop, get_or, cond, subst}
use mathlib.Core.List.{IsPrefix}
use Rattle.gate_link_stages.specs.Marks.{ends, ended_here}

module _ {T : Type 0} (is_mark : T → Bool) where
  only_end : (xs : List T) (b : Bool) → ended_here xs b ≡ true → (xs ≡ []) × (b ≡ true)
  only_end [] b h = (refl, h)
  only_end (x ∷ xs) b h = absurd (cc h)

  more_here : (x : T) (ys : List T) (m : Bool) → cond m (ended_here ys false) (ends is_mark ys false) ≡ true
      → (m ≡ false) × (ends is_mark ys false ≡ true)
  more_here x ys false h = (refl, h)
  more_here x ys true h = absurd (cc ((only_end ys false h).1))

  -- an item after others, none of them a mark
  pub ends_more : (xs : List T) (x : T) → ends is_mark xs false ≡ true → is_mark x ≡ false
      → ends is_mark (xs ++ x ∷ []) false ≡ true
  ends_more [] x h plain = rw plain refl
  ends_more (y ∷ ys) x h plain =
      let here = more_here y ys (is_mark y) h in
      rw here.0 (ends_more ys x here.1 plain)

  -- items after others, none of them a mark
  pub ends_both : (xs ys : List T) → ends is_mark xs false ≡ true → ends is_mark ys false ≡ true
      → ends is_mark (xs ++ ys) false ≡ true
  ends_both [] ys h k = k
  ends_both (x ∷ xs) ys h k =
      let here = more_here x xs (is_mark x) h in
      rw here.0 (ends_both xs ys here.1 k)

  -- the mark after them
  pub ends_mark : (xs : List T) (x : T) → ends is_mark xs false ≡ true → is_mark x ≡ true
      → ends is_mark (xs ++ x ∷ []) true ≡ true
  ends_mark [] x h mark = rw mark refl
  ends_mark (y ∷ ys) x h mark =
      let here = more_here y ys (is_mark y) h in
      rw here.0 (ends_mark ys x here.1 mark)

  pick : (xs ys : List T) (b m : Bool) → cond m (ended_here xs true) (ends is_mark xs true) ≡ true
      → cond m (ended_here ys b) (ends is_mark ys b) ≡ true
      → (ends is_mark xs true ≡ true → ends is_mark ys b ≡ true → (b ≡ true) × (xs ≡ ys)) → (b ≡ true) × (xs ≡ ys)
  pick xs ys b true h k ih = ((only_end ys b k).1, (only_end xs true h).0 ∙ sym (only_end ys b k).0)
  pick xs ys b false h k ih = ih h k

  -- where the mark was taken, all that was given was taken
  pub all_taken : (xs known ys : List T) (b : Bool) → ends is_mark xs true ≡ true → ends is_mark ys b ≡ true → xs
      ++ known ≡ ys → (b ≡ true) × (xs ≡ ys)
  all_taken [] known ys b h k e = absurd (cc h)
  all_taken (x ∷ xs) known [] b h k e = absurd (cc (ap length e))
  all_taken (x ∷ xs) known (y ∷ ys) b h k e =
      let head : y ≡ x = ap (λ t. get_or t 0 x) (sym e) in
      let tail : xs ++ known ≡ ys = ap (drop 1) e in
      let here : cond (is_mark x) (ended_here ys b) (ends is_mark ys b) ≡ true =
      subst (λ z. cond (is_mark z) (ended_here ys b) (ends is_mark ys b) ≡ true) head k in
      let rest = pick xs ys b (is_mark x) h here (λ p q. all_taken xs known ys b p q tail) in
      (rest.0, cc (head, rest.1))

-- the item that was looked at is the one that is taken
pub same_first : {T : Type 0} (p q : T) (ks rest : List T) → IsPrefix (p ∷ []) ks → ks ≡ q ∷ rest → q ≡ p
same_first p q ks rest pre is = ap (λ t. get_or t 0 p) (sym is ∙ sym pre.1)
