-- A text that was written, and what was taken behind it.
use Rattle.std.proofs.Common.{◌≡◌, ◌∙◌, ℕ, Bool, true, false, List, [], ◌++◌, Option, Result, Ok, Err, OnErr, is_ok, ap, subst, sym, append_assoc, append-nil}
use Rattle.std.specs.Prelude.{IsErrOf}
use Rattle.spread_rules_ends.specs.Ends.{AppendsPrefix}
use Rattle.text_messages.specs.code.Blocks.{Writes}
use Rattle.text_messages.proofs.BlocksInTurn.{front_of_more}
use Rattle.text_day.proofs.PartsInTurn.{then_writes}

-- where the first could not be written, nothing was written behind it
pub both_written : {T E F : Type 0} (so_far : Result T E) (r : Result T F) (a b c : Option (List ℕ))
    (was has_failed : Bool)
    (xs ys : List ℕ) → Writes so_far a b was xs → Writes r b c has_failed ys
    → OnErr so_far ((is_ok r ≡ false) × (c ≡ b)) → Writes r a c has_failed (xs ++ ys)
both_written (Ok u) r a b c was has_failed xs ys first second kept =
    then_writes r a b c has_failed xs ys first.all second
both_written (Err e) (Ok v) a b c was has_failed xs ys first second kept = absurd (cc kept.0)
both_written (Err e) (Err f) a b c was has_failed xs ys first second kept =
    record {
      all = tt;
      sound = tt;
      failed = second.failed;
      front =
          front_of_more a c xs ys (subst (λ (n : Option (List ℕ)). AppendsPrefix a n xs) (sym kept.1) first.front);
    }

-- the parts of a text behind its first one, said one by one
pub part_by_part : (a b c d : List ℕ) → a ++ (b ++ c ++ d) ≡ a ++ b ++ c ++ d
part_by_part a b c d = sym (append_assoc a (b ++ c) d) ∙ ap (λ t. t ++ d) (sym (append_assoc a b c))

-- where nothing was taken, only what was written first is out
pub none_taken : (first taken behind : List ℕ) → taken ≡ [] → (first ++ taken) ++ behind ≡ first ++ behind
none_taken first taken behind none = ap (λ t. (first ++ t) ++ behind) none ∙ ap (λ t. t ++ behind) (append-nil first)

-- what a failed write leaves of a text
pub failed_front : {T E : Type 0} (r : Result T E) (e : E) (a b : Option (List ℕ)) (has_failed : Bool)
    (said text : List ℕ) → said ≡ text → Writes r a b has_failed said → IsErrOf r e
    → (has_failed ≡ true) × AppendsPrefix a b text
failed_front (Ok u) e a b has_failed said text same writes is = absurd (cc is)
failed_front (Err f) e a b has_failed said text same writes is =
    (writes.failed, subst (λ (t : List ℕ). AppendsPrefix a b t) same writes.front)
