-- keys are equal where their order says so
use Rattle.std.proofs.Common.{◌≡◌, ℕ, Bool, true, false, cond, Option, Some, None, refl, ap, ◌∙◌, sym, arith}
use Rattle.std.specs.Option.{option_or}
use Rattle.std.specs.declared.cmp.Ordering.{Ordering}
use Rattle.std.specs.declared.cmp.Ordering.TheVariants.{Less, Equal, Greater}
use Rattle.std.specs.Ordering.{nat_cmp, ordering_then, is_eq}
use Rattle.std.proofs.lemmas.Bool.Decides.{nat_tests}
use Rattle.std.proofs.lemmas.Map.Lookups.{CmpEqualImpliesEq, exact_unsigned}
use Rattle.spread_rules_ids.specs.declared.id_key.IdKey.{IdKey}
use Rattle.spread_rules_ids.specs.IdKeys.{id_key_cmp}
use Rattle.spread_books_ids.specs.Ids.{is_key}

pub both_equal : (a b : Ordering) → ordering_then a b ≡ Equal → (a ≡ Equal) × (b ≡ Equal)
both_equal Equal b e = (refl, e)
both_equal Less b e = cc
both_equal Greater b e = cc

pub exact_id_key : CmpEqualImpliesEq id_key_cmp
exact_id_key a b e =
    let p = both_equal (nat_cmp a.session b.session) _ e in
    let q = both_equal (nat_cmp a.first b.first) _ p.1 in
    let r = both_equal (nat_cmp a.second b.second) _ q.1 in
    let s = both_equal (nat_cmp a.third b.third) _ r.1 in
    let t = both_equal (nat_cmp a.fourth b.fourth) _ s.1 in
    ap (λ (n : ℕ). record {
      session = n;
      first = a.first;
      second = a.second;
      third = a.third;
      fourth = a.fourth;
      size =
          a.size;
    }) (exact_unsigned a.session b.session p.0)
    ∙ (ap (λ (n : ℕ). record {
      session = b.session;
      first = n;
      second = a.second;
      third = a.third;
      fourth = a.fourth;
      size = a.size;
    }) (exact_unsigned a.first b.first q.0)
    ∙ (ap (λ (n : ℕ). record {
      session = b.session;
      first = b.first;
      second = n;
      third = a.third;
      fourth = a.fourth;
      size = a.size;
    }) (exact_unsigned a.second b.second r.0)
    ∙ (ap (λ (n : ℕ). record {
      session = b.session;
      first = b.first;
      second = b.second;
      third = n;
      fourth = a.fourth;
      size = a.size;
    }) (exact_unsigned a.third b.third s.0)
    ∙ (ap (λ (n : ℕ). record {
      session = b.session;
      first = b.first;
      second = b.second;
      third = b.third;
      fourth = n;
      size = a.size;
    }) (exact_unsigned a.fourth b.fourth t.0)
    ∙ ap (λ (n : ℕ). record {
      session = b.session;
      first = b.first;
      second = b.second;
      third = b.third;
      fourth =
          b.fourth;
      size = n;
    }) (exact_unsigned a.size b.size t.1)))))

pub equal_is : (o : Ordering) → is_eq o ≡ true → o ≡ Equal
equal_is Equal e = refl
equal_is Less e = cc
equal_is Greater e = cc

nat_self : (n : ℕ) → nat_cmp n n ≡ Equal
nat_self n = grind (arith, nat_tests)

pub key_self : (k : IdKey) → id_key_cmp k k ≡ Equal
key_self k =
    ap (λ (o : Ordering). ordering_then o (ordering_then (nat_cmp k.first k.first)
    (ordering_then (nat_cmp k.second k.second) (ordering_then (nat_cmp k.third k.third)
    (ordering_then (nat_cmp k.fourth k.fourth) (nat_cmp k.size k.size)))))) (nat_self k.session)
    ∙ (ap (λ (o : Ordering). ordering_then o (ordering_then (nat_cmp k.second k.second)
    (ordering_then (nat_cmp k.third k.third) (ordering_then (nat_cmp k.fourth k.fourth) (nat_cmp k.size k.size)))))
    (nat_self k.first)
    ∙ (ap (λ (o : Ordering). ordering_then o (ordering_then (nat_cmp k.third k.third)
    (ordering_then (nat_cmp k.fourth k.fourth) (nat_cmp k.size k.size)))) (nat_self k.second)
    ∙ (ap (λ (o : Ordering). ordering_then o (ordering_then (nat_cmp k.fourth k.fourth) (nat_cmp k.size k.size)))
    (nat_self k.third)
    ∙ (ap (λ (o : Ordering). ordering_then o (nat_cmp k.size k.size)) (nat_self k.fourth) ∙ nat_self k.size))))

pub key_is : (a b : IdKey) → is_key a b ≡ true → a ≡ b
key_is a b e = exact_id_key a b (equal_is (id_key_cmp a b) e)

pub is_key_of_same : (a b : IdKey) → a ≡ b → is_key a b ≡ true
is_key_of_same a b e = ap (λ (k : IdKey). is_key a k) (sym e) ∙ ap is_eq (key_self a)

pub is_key_sym : (a b : IdKey) → is_key a b ≡ is_key b a
is_key_sym a b = by_test (is_key a b) (is_key b a) refl refl
  where
    by_test : (c d : Bool) → is_key a b ≡ c → is_key b a ≡ d → c ≡ d
    by_test true true e f = refl
    by_test false false e f = refl
    by_test true false e f = (let g = is_key_of_same b a (sym (key_is a b e)) in cc)
    by_test false true e f = (let g = is_key_of_same a b (sym (key_is b a f)) in cc)

-- ---- where the first row of a key stands, after one row more

or_none : (o : Option ℕ) → o ≡ option_or o None
or_none None = refl
or_none (Some n) = refl

-- a key gets that row where it has none
kept_or_new : (old new : IdKey → Option ℕ) (key : IdKey) (at : ℕ)
    → ((q : IdKey) → new q ≡ cond (is_key key q) (option_or (old key) (Some at)) (old q))
    → (q : IdKey) → new q ≡ option_or (old q) (cond (is_key key q) (Some at) None)
kept_or_new old new key at put q = by_test (is_key key q) refl
  where
    by_test : (v : Bool) → is_key key q ≡ v → new q ≡ option_or (old q) (cond (is_key key q) (Some at) None)
    by_test true e =
        put q ∙ (ap (λ (b : Bool). cond b (option_or (old key) (Some at)) (old q)) e
        ∙ (ap (λ (k : IdKey). option_or (old k) (Some at)) (key_is key q e)
        ∙ ap (λ (b : Bool). option_or (old q) (cond b (Some at) None)) (sym e)))
    by_test false e =
        put q ∙ (ap (λ (b : Bool). cond b (option_or (old key) (Some at)) (old q)) e
        ∙ (or_none (old q)
        ∙ ap (λ (b : Bool). option_or (old q) (cond b (Some at) None)) (sym e)))

-- a key that is new
pub first_new : (old new : IdKey → Option ℕ) (key : IdKey) (at : ℕ) → None ≡ old key
    → ((q : IdKey) → new q ≡ cond (is_key key q) (Some at) (old q))
    → (q : IdKey) → new q ≡ option_or (old q) (cond (is_key key q) (Some at) None)
first_new old new key at none put = kept_or_new old new key at
    (λ q. put q ∙ ap (λ (o : Option ℕ). cond (is_key key q) (option_or o (Some at)) (old q)) none)

pub put_twice : (b : Bool) (x y z : Option ℕ) → cond b x (cond b y z) ≡ cond b x z
put_twice true x y z = refl
put_twice false x y z = refl

-- a key that had a place, which is put back
pub first_kept : (old mid new : IdKey → Option ℕ) (key : IdKey) (at earlier : ℕ) → Some earlier ≡ old key
    → ((q : IdKey) → mid q ≡ cond (is_key key q) (Some at) (old q))
    → ((q : IdKey) → new q ≡ cond (is_key key q) (Some earlier) (mid q)) → (q : IdKey)
    → new q ≡ option_or (old q) (cond (is_key key q) (Some at) None)
first_kept old mid new key at earlier some put back = kept_or_new old new key at (λ q.
    back q ∙ (ap (λ (o : Option ℕ). cond (is_key key q) (Some earlier) o) (put q)
    ∙ (put_twice (is_key key q) (Some earlier) (Some at) (old q)
    ∙ ap (λ (o : Option ℕ). cond (is_key key q) (option_or o (Some at)) (old q)) some)))
