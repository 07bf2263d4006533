-- The text of blocks to which one is added, its mark, and how far it was written.
use Rattle.std.proofs.Common.{◌≡◌, refl, ◌∙◌, ◌<◌, ◌++◌, ◌∷◌, [], ℕ, List, Option, Result, Ok, Err, Bool, true, false, OnOk, OnErr, length, vec_len, ◌==◌, is_ok, sym, ap, append-nil, arith}
use Rattle.std.proofs.KnownBytes.{Appends-trans}
use Rattle.std.proofs.lemmas.Bool.Decides.{nat_tests}
use Rattle.std.proofs.lemmas.Grind.{flat_map-append}
use Rattle.std.proofs.lemmas.List.{nil_from_length}
use Rattle.std.specs.Io.KnownBytes.{Appends}
use Rattle.std.specs.declared.vec.Vec.{Vec}
use Rattle.rtrb.specs.Ring.{SameConsumer}
use Rattle.rtrb.specs.declared.consumer.Consumer.{Consumer}
use Rattle.spread_rules_ends.specs.Ends.{AppendsPrefix}
use Rattle.gate_link_stages.specs.Marks.{ends}
use Rattle.gate_link_stages.proofs.Marks.{ends_more, ends_mark}
use Rattle.text_messages.specs.code.Blocks.{Writes}
use Rattle.text_messages.proofs.BlocksInTurn.{front_after, front_of_more}
use Rattle.text_ring.specs.Blocks.{is_mark, text_in}

-- two steps of the same end of a ring
pub same_consumer_trans : {T A P : Type 0} (a b d : Consumer T A P) → SameConsumer a b → SameConsumer b d
    → SameConsumer a d
same_consumer_trans a b d p q = ((q.0.0 ∙ p.0.0, q.0.1 ∙ p.0.1, q.0.2 ∙ p.0.2, q.0.3 ∙ p.0.3), q.1 ∙ p.1)

-- one block more
pub text_more : {A : Type 0} (xs ys : List (Vec ℕ A)) (p : Vec ℕ A) → ys ≡ xs ++ p ∷ [] → text_in ys ≡ text_in xs
    ++ p.items
text_more xs ys p more =
    ap text_in more ∙ (flat_map-append (λ block. block.items) xs (p ∷ [])
    ∙ ap (λ t. text_in xs ++ t) (append-nil p.items))

pub is_mark_of : {A : Type 0} (p : Vec ℕ A) → p.items ≡ [] → is_mark p ≡ true
is_mark_of p none = rw none refl

pub no_mark_of : {A : Type 0} (p : Vec ℕ A) → 0 < length p.items → is_mark p ≡ false
no_mark_of p some = grind (arith, nat_tests, some)

-- a block that is no mark, behind others
pub plain_more : {A : Type 0} (xs ys : List (Vec ℕ A)) (p : Vec ℕ A) (ended : Bool) → ended ≡ false
    → ends is_mark xs ended ≡ true → ys ≡ xs ++ p ∷ [] → is_mark p ≡ false → ends is_mark ys ended ≡ true
plain_more xs ys p true not was more plain = absurd (cc not)
plain_more xs ys p false not was more plain = rw more (ends_more is_mark xs p was plain)

-- the mark behind them
pub mark_more : {A : Type 0} (xs ys : List (Vec ℕ A)) (p : Vec ℕ A) (ended : Bool) → ended ≡ false
    → ends is_mark xs ended ≡ true → ys ≡ xs ++ p ∷ [] → is_mark p ≡ true → ends is_mark ys true ≡ true
mark_more xs ys p true not was more mark = absurd (cc not)
mark_more xs ys p false not was more mark = rw more (ends_mark is_mark xs p was mark)

-- what a write adds to a text that was written
pub writes_more : {E : Type 0} (r next : Result (Unit {0}) E) (a b c : Option (List ℕ)) (was has_failed : Bool)
    (text bytes : List ℕ) → is_ok r ≡ true → Writes r a b was text
    → OnOk next (Appends b c bytes) → OnOk next (has_failed ≡ false) → OnErr next (has_failed ≡ true)
    → OnErr next (AppendsPrefix b c bytes) → Writes next a c has_failed (text ++ bytes)
writes_more (Err e) next a b c was has_failed text bytes is w all sound failed front = absurd (cc is)
writes_more (Ok u) (Ok v) a b c was has_failed text bytes is w all sound failed front =
    record { all = Appends-trans a b c text bytes w.all all; sound = sound; failed = tt; front = tt }
writes_more (Ok u) (Err e) a b c was has_failed text bytes is w all sound failed front =
    record { all = tt; sound = tt; failed = failed; front = front_after a b c text bytes w.all front }

-- behind a write that failed nothing is added
pub writes_no_more : {E : Type 0} (r : Result (Unit {0}) E) (a b : Option (List ℕ)) (has_failed : Bool)
    (text bytes : List ℕ) → is_ok r ≡ false → Writes r a b has_failed text
    → Writes r a b has_failed (text ++ bytes)
writes_no_more (Ok u) a b has_failed text bytes is w = absurd (cc is)
writes_no_more (Err e) a b has_failed text bytes is w =
    record { all = tt; sound = tt; failed = w.failed; front = front_of_more a b text bytes w.front }

-- where the text before could not be written, no write goes well
pub none_failed : {T U E F : Type 0} (P Q : Type 0) (before : Result T E) (r : Result U F)
    → OnErr before ((is_ok r ≡ false) × P) → is_ok r ≡ true → OnErr before Q
none_failed P Q (Ok u) r kept is = tt
none_failed P Q (Err e) r kept is = absurd (cc (kept.0, is))

-- a list that was looked at
pub none_of : {A : Type 0} (p : Vec ℕ A) (b : Bool) → b ≡ (vec_len p == 0) → b ≡ true → p.items ≡ []
none_of p b test is =
    let zero : vec_len p ≡ 0 = grind (arith, nat_tests, test, is) in
    nil_from_length p.items (sym p.ok.0 ∙ zero)

pub some_of : {A : Type 0} (p : Vec ℕ A) (b : Bool) → b ≡ (vec_len p == 0) → b ≡ false → 0 < length p.items
some_of p b test is =
    let some : 0 < vec_len p = grind (arith, nat_tests, test, is) in
    omega (arith, some, p.ok.0)
