-- one number more in a line
use Rattle.std.proofs.Common.{◌≡◌, ℕ, zero, suc, ◌+◌, ◌<◌, ◌/◌, ◌%◌, ◌==◌, Bool, true, false, ◌&&◌, cond, List, [], ◌∷◌, ◌++◌, ◌≤◌, length, get_or, set, take, drop, All, Option, Some, None, refl, ap, ◌∙◌, sym, subst, arith, add-one, drop-cons, ◌⊎◌, inl, inr}
use Rattle.std.specs.Prelude.{◌≢◌, max, slice_get, option_map}
use Rattle.std.specs.Option.{option_or}
use Rattle.std.proofs.lemmas.Bool.{cases_lt}
use Rattle.std.proofs.lemmas.Bool.Decides.{nat_tests}
use Rattle.std.proofs.lemmas.List.{get_or_default}
use Rattle.spread_rules_ids.specs.declared.id_key.IdKey.{IdKey}
use Rattle.spread_books_ids.specs.declared.id_table.TheConstants.{ROWS}
use Rattle.spread_books_ids.specs.Ids.{is_key, first_row}
use Rattle.spread_books_ids.specs.Tables.{tag_of, is_row_of, names_key, named_row, HasEnd, NamesBelow}
use Rattle.spread_books_ids.specs.code.Seeks.{EndsAt}
use Rattle.spread_books_ids.proofs.Keys.{key_is, is_key_sym}

-- ---- lists of keys that agree in their first rows

pub record Agree (n : ℕ) (ks hs : List IdKey) : Type 0 where
  pub same : (r : ℕ) → r < n → slice_get ks r ≡ slice_get hs r

pub agree_more : (ks : List IdKey) (p : IdKey) → Agree (length ks) (ks ++ p ∷ []) ks
agree_more ks p = record { same = λ r lt. at ks r lt }
  where
    at : (ks : List IdKey) (r : ℕ) → r < length ks → slice_get (ks ++ p ∷ []) r ≡ slice_get ks r
    at [] r lt = absurd (omega arith)
    at (k ∷ ks) zero lt = refl
    at (k ∷ ks) (suc r) lt = at ks r (omega arith)

pub agree_take : (n : ℕ) (ks : List IdKey) → Agree n ks (take n ks)
agree_take n ks = record { same = λ r lt. at n ks r lt }
  where
    at : (n : ℕ) (ks : List IdKey) (r : ℕ) → r < n → slice_get ks r ≡ slice_get (take n ks) r
    at zero ks r lt = absurd (omega arith)
    at (suc n) [] r lt = refl
    at (suc n) (k ∷ ks) zero lt = refl
    at (suc n) (k ∷ ks) (suc r) lt = at n ks r (omega arith)

pub last_row : (ks : List IdKey) (p : IdKey) → slice_get (ks ++ p ∷ []) (length ks) ≡ Some p
last_row [] p = refl
last_row (k ∷ ks) p = last_row ks p

pub tail_of : {X : Type 0} (P : X → Type 0) (x : X) (xs : List X) → All P (x ∷ xs) → All P xs
tail_of P x xs h = λ k d lt. h (suc k) d (omega arith)

pub head_of : {X : Type 0} (P : X → Type 0) (x : X) (xs : List X) → All P (x ∷ xs) → P x
head_of P x xs h = h zero x (omega arith)

no_tag : (t : ℕ) → (0 == max t 1) ≡ false
no_tag t = grind (arith, nat_tests)

and_false : (a b : Bool) → a ≡ false → (a && b) ≡ false
and_false false b e = refl
and_false true b e = cc

pub zero_names_none : (ks : List IdKey) (key : IdKey) (e : ℕ) → e ≡ 0 → names_key ks key e ≡ false
zero_names_none ks key e z = rw z (and_false (0 == tag_of key) _ (no_tag _))

names_same : (n : ℕ) (ks hs : List IdKey) (key : IdKey) (e : ℕ) → Agree n ks hs → NamesBelow n e
    → names_key ks key e ≡ names_key hs key e
names_same n ks hs key zero a h = zero_names_none ks key zero refl ∙ sym (zero_names_none hs key zero refl)
names_same n ks hs key (suc e) a h = ap (λ (k : Option IdKey). suc e / ROWS == tag_of key && is_row_of k key)
    (a.same (suc e % ROWS) (h (λ z. omega (arith, z))))

pub named_same : (n : ℕ) (ks hs : List IdKey) (key : IdKey) (es : List ℕ) → Agree n ks hs → All (NamesBelow n) es
    → named_row ks key es ≡ named_row hs key es
named_same n ks hs key [] a h = refl
named_same n ks hs key (e ∷ es) a h =
    let here = names_same n ks hs key e a (head_of (NamesBelow n) e es h) in
    ap (λ (b : Bool). cond b (Some (e % ROWS)) (named_row ks key es)) here
    ∙ ap (λ (o : Option ℕ). cond (names_key hs key e) (Some (e % ROWS)) o)
    (named_same n ks hs key es a (tail_of (NamesBelow n) e es h))

-- ---- the first row, after one row more

suc_or : (o : Option ℕ) (b : Bool) (n : ℕ) → option_map suc (option_or o (cond b (Some n) None)) ≡ option_or
    (option_map suc o) (cond b (Some (suc n)) None)
suc_or None true n = refl
suc_or None false n = refl
suc_or (Some m) b n = refl

pub first_row_more : (key : IdKey) (ks : List IdKey) (p : IdKey)
    → first_row key (ks ++ p ∷ []) ≡ option_or (first_row key ks) (cond (is_key key p) (Some (length ks)) None)
first_row_more key [] p = refl
first_row_more key (k ∷ ks) p =
    ap (λ (o : Option ℕ). cond (is_key key k) (Some 0) (option_map suc o)) (first_row_more key ks p)
    ∙ by_test (is_key key k)
  where
    by_test : (b : Bool) → cond b (Some 0) (option_map suc
        (option_or (first_row key ks) (cond (is_key key p) (Some (length ks)) None)))
        ≡ option_or (cond b (Some 0) (option_map suc (first_row key ks)))
        (cond (is_key key p) (Some (suc (length ks))) None)
    by_test true = refl
    by_test false = suc_or (first_row key ks) (is_key key p) (length ks)

-- ---- where a line ends

pub zeros_name_none : (ks : List IdKey) (key : IdKey) (es : List ℕ) → All (λ (d : ℕ). d ≡ 0) es
    → named_row ks key es ≡ None
zeros_name_none ks key [] h = refl
zeros_name_none ks key (e ∷ es) h =
    ap (λ (b : Bool). cond b (Some (e % ROWS)) (named_row ks key es))
    (zero_names_none ks key e (head_of (λ (d : ℕ). d ≡ 0) e es h))
    ∙ zeros_name_none ks key es (tail_of (λ (d : ℕ). d ≡ 0) e es h)

-- the line ends here: no number from here on names a row
pub end_names_none : (ks : List IdKey) (key : IdKey) (e : ℕ) (es : List ℕ) → HasEnd (e ∷ es) → e ≡ 0
    → named_row ks key (e ∷ es) ≡ None
end_names_none ks key e es h z = ap (λ (b : Bool). cond b (Some (e % ROWS)) (named_row ks key es))
    (zero_names_none ks key e z) ∙ zeros_name_none ks key es (h.0 z)

pub ends_within : (es : List ℕ) (at : ℕ) → EndsAt es at → at < length es
ends_within [] at h = absurd h
ends_within (e ∷ es) zero h = omega arith
ends_within (e ∷ es) (suc at) h = let r = ends_within es at h.1 in omega (arith, r)

pub ends_with_zero : (es : List ℕ) (at : ℕ) → EndsAt es at → get_or es at 1 ≡ 0
ends_with_zero [] at h = absurd h
ends_with_zero (e ∷ es) zero h = h
ends_with_zero (e ∷ es) (suc at) h = ends_with_zero es at h.1

not_zero : (n : ℕ) → n ≡ 1 → n ≡ 0 → ⊥
not_zero n e z = omega arith

pub full_has_no_zero : (es : List ℕ) (i : ℕ) → All (λ (e : ℕ). e ≢ 0) es → get_or es i 1 ≡ 0 → ⊥
full_has_no_zero [] i h z = not_zero 1 refl z
full_has_no_zero (e ∷ es) zero h z = head_of (λ (d : ℕ). d ≢ 0) e es h z
full_has_no_zero (e ∷ es) (suc i) h z = full_has_no_zero es i (tail_of (λ (d : ℕ). d ≢ 0) e es h) z

-- ---- a number put where the line ended

pub end_after : (es : List ℕ) (at number : ℕ) → EndsAt es at → HasEnd es → number ≢ 0 → HasEnd (set es at number)
end_after [] at number e h some = absurd e
end_after (e ∷ es) zero number z h some = (λ no. absurd (some no), h.1)
end_after (e ∷ es) (suc at) number z h some = (λ no. absurd (z.0 no), end_after es at number z.1 h.1 some)

pub zero_was : (es : List ℕ) (at i number : ℕ) → number ≢ 0 → get_or (set es at number) i 1 ≡ 0 → get_or es i 1 ≡ 0
zero_was [] at i number some z = z
zero_was (e ∷ es) zero zero number some z = absurd (some z)
zero_was (e ∷ es) zero (suc i) number some z = z
zero_was (e ∷ es) (suc at) zero number some z = z
zero_was (e ∷ es) (suc at) (suc i) number some z = zero_was es at i number some z

pub named_with : (n : ℕ) (ks hs : List IdKey) (key : IdKey) (es : List ℕ) (at number : ℕ) → Agree n ks hs
    → All (NamesBelow n) es → EndsAt es at → HasEnd es →
    named_row ks key (set es at number) ≡ option_or (named_row hs key es)
    (cond (names_key ks key number) (Some (number % ROWS)) None)
named_with n ks hs key [] at number a h z end = absurd z
named_with n ks hs key (e ∷ es) zero number a h z end =
    ap (λ (o : Option ℕ). cond (names_key ks key number) (Some (number % ROWS)) o) (zeros_name_none ks key es (end.0 z))
    ∙ ap (λ (o : Option ℕ). option_or o (cond (names_key ks key number) (Some (number % ROWS)) None))
    (sym (end_names_none hs key e es end z))
named_with n ks hs key (e ∷ es) (suc at) number a h z end =
    let here = names_same n ks hs key e a (head_of (NamesBelow n) e es h) in
    ap (λ (b : Bool). cond b (Some (e % ROWS)) (named_row ks key (set es at number))) here
    ∙ (ap (λ (o : Option ℕ). cond (names_key hs key e) (Some (e % ROWS)) o)
    (named_with n ks hs key es at number a (tail_of (NamesBelow n) e es h) z.1 end.1)
    ∙ by_test (names_key hs key e) (cond (names_key ks key number) (Some (number % ROWS)) None))
  where
    by_test : (b : Bool) (x : Option ℕ) → cond b (Some (e % ROWS)) (option_or (named_row hs key es) x) ≡ option_or
        (cond b (Some (e % ROWS)) (named_row hs key es)) x
    by_test true x = refl
    by_test false x = refl

-- a number of a key names that key alone
pub names_new : (ks : List IdKey) (p key : IdKey) (number row : ℕ) → number / ROWS ≡ tag_of p → number % ROWS ≡ row
    → slice_get ks row ≡ Some p → names_key ks key number ≡ is_key p key
names_new ks p key number row tag at is =
    ap (λ (r : ℕ). number / ROWS == tag_of key && is_row_of (slice_get ks r) key) at
    ∙ (ap (λ (k : Option IdKey). number / ROWS == tag_of key && is_row_of k key) is
    ∙ (by_test (is_key key p) refl ∙ is_key_sym key p))
  where
    same : (m n : ℕ) → m ≡ n → (m == n) ≡ true
    same m n e = grind (arith, nat_tests, e)

    by_tag : (b c : Bool) → c ≡ true → (c && b) ≡ b
    by_tag b true e = refl
    by_tag b false e = cc

    no_key : (a b : Bool) → b ≡ false → (a && b) ≡ b
    no_key true b e = refl
    no_key false b e = sym e

    by_test : (b : Bool) → is_key key p ≡ b → (number / ROWS == tag_of key && is_key key p) ≡ is_key key p
    by_test true e = by_tag (is_key key p) (number / ROWS == tag_of key)
        (same (number / ROWS) (tag_of key) (tag ∙ ap tag_of (sym (key_is key p e))))
    by_test false e = no_key (number / ROWS == tag_of key) (is_key key p) e

-- ---- one step along a line

drops : (es : List ℕ) (at : ℕ) → at < length es → drop at es ≡ get_or es at 0 ∷ drop (at + 1) es
drops es at lt = rw (add-one, drop-cons es at 0)

cons_all : {X : Type 0} (P : X → Type 0) (x : X) (xs : List X) → P x → All P xs → All P (x ∷ xs)
cons_all P x xs p h zero d lt = p
cons_all P x xs p h (suc k) d lt = h k d (omega arith)

pub next_named : (ks : List IdKey) (key : IdKey) (es : List ℕ) (at : ℕ) → at < length es
    → names_key ks key (get_or es at 0) ≡ false →
    named_row ks key (drop at es) ≡ named_row ks key es → named_row ks key (drop (at + 1) es) ≡ named_row ks key es
next_named ks key es at lt differs h =
    sym (ap (named_row ks key) (drops es at lt) ∙ ap (λ (b : Bool). cond b (Some (get_or es at 0 % ROWS))
    (named_row ks key (drop (at + 1) es))) differs) ∙ h

pub next_ended : (es : List ℕ) (at : ℕ) → at < length es → HasEnd (drop at es) → HasEnd (drop (at + 1) es)
next_ended es at lt h = (subst HasEnd (drops es at lt) h).1

pub next_ends : (es : List ℕ) (at : ℕ) → at < length es → get_or es at 0 ≢ 0
    → ((j : ℕ) → EndsAt (drop at es) j → EndsAt es (at + j)) → (j : ℕ) → EndsAt (drop (at + 1) es) j
    → EndsAt es (at + 1 + j)
next_ends es at lt ne h j z =
    let same : at + suc j ≡ at + 1 + j = omega arith in
    subst (EndsAt es) same (h (suc j) (subst (λ (ds : List ℕ). EndsAt ds (suc j)) (sym (drops es at lt)) (ne, z)))

pub next_full : (es : List ℕ) (at : ℕ) → at < length es → get_or es at 0 ≢ 0
    → (All (λ (e : ℕ). e ≢ 0) (drop at es) → All (λ (e : ℕ). e ≢ 0) es) →
    All (λ (e : ℕ). e ≢ 0) (drop (at + 1) es) → All (λ (e : ℕ). e ≢ 0) es
next_full es at lt ne h all =
    h (subst (All (λ (e : ℕ). e ≢ 0)) (sym (drops es at lt))
    (cons_all (λ (e : ℕ). e ≢ 0) (get_or es at 0) (drop (at + 1) es) ne all))

pub end_here : (ks : List IdKey) (key : IdKey) (es : List ℕ) (at : ℕ) → at < length es → get_or es at 0 ≡ 0
    → named_row ks key (drop at es) ≡ named_row ks key es → HasEnd (drop at es) →
    ((j : ℕ) → EndsAt (drop at es) j → EndsAt es (at + j)) → (named_row ks key es ≡ None) × EndsAt es at
end_here ks key es at lt z named ended h =
    let d = drops es at lt in
    let same : at + 0 ≡ at = omega arith in (
      sym named ∙ (ap (named_row ks key) d ∙ end_names_none ks key (get_or es at 0) (drop (at + 1) es)
          (subst HasEnd d ended) z),
      subst (EndsAt es) same (h 0 (subst (λ (ds : List ℕ). EndsAt ds 0) (sym d) z)),
    )

-- ---- all numbers of a line looked at

other_tag : (ks : List IdKey) (key : IdKey) (e : ℕ) → e / ROWS ≢ tag_of key → names_key ks key e ≡ false
other_tag ks key e other = and_false (e / ROWS == tag_of key) _ (differs (e / ROWS) (tag_of key) other)
  where
    differs : (m n : ℕ) → m ≢ n → (m == n) ≡ false
    differs m n h = grind (arith, nat_tests, h)

-- where no number has the tag of a key, none names a row of it
pub other_tags_name_none : (ks : List IdKey) (key : IdKey) (es : List ℕ) → All (λ (e : ℕ). e / ROWS ≢ tag_of key) es
    → named_row ks key es ≡ None
other_tags_name_none ks key [] h = refl
other_tags_name_none ks key (e ∷ es) h =
    ap (λ (b : Bool). cond b (Some (e % ROWS)) (named_row ks key es))
    (other_tag ks key e (head_of (λ (d : ℕ). d / ROWS ≢ tag_of key) e es h))
    ∙ other_tags_name_none ks key es (tail_of (λ (d : ℕ). d / ROWS ≢ tag_of key) e es h)

-- behind the end all numbers are 0
zero_behind : (es : List ℕ) (at i : ℕ) → EndsAt es at → HasEnd es → at ≤ i → i < length es → get_or es i 0 ≡ 0
zero_behind [] at i z h l m = absurd z
zero_behind (e ∷ es) zero zero z h l m = z
zero_behind (e ∷ es) zero (suc i) z h l m = h.0 z i 0 (omega arith)
zero_behind (e ∷ es) (suc at) zero z h l m = absurd (omega arith)
zero_behind (e ∷ es) (suc at) (suc i) z h l m = zero_behind es at i z.1 h.1 (omega arith) (omega arith)

ends_here : (es : List ℕ) (at : ℕ) → at < length es → ((j d : ℕ) → j < at → get_or es j d ≢ 0) → get_or es at 0 ≡ 0
    → EndsAt es at
ends_here [] at l before z = absurd (omega arith)
ends_here (e ∷ es) zero l before z = z
ends_here (e ∷ es) (suc at) l before z = (
  before 0 0 (omega arith),
  ends_here es at (omega arith) (λ j d m. before (suc j) d (omega arith)) z,
)

-- of the numbers before a place, so many stand: all of them, or those before the end
pub record Counts (es : List ℕ) (at count : ℕ) : Type 0 where
  pub most : count ≤ at
  pub stand : count ≡ at → (j d : ℕ) → j < at → get_or es j d ≢ 0
  pub end : count < at → EndsAt es count

pub counts_none : (es : List ℕ) → Counts es 0 0
counts_none es = record {
  most = omega arith;
  stand = λ e j d l. absurd (omega (arith, l));
  end =
      λ l. absurd (omega (arith, l));
}

pub counts_more : (es : List ℕ) (at count : ℕ) → at < length es → HasEnd es → Counts es at count → get_or es at 0 ≢ 0
    → Counts es (at + 1) (count + 1)
counts_more es at count l h c some = record {
  most = omega (arith, c.most);
  stand = λ e j d m. by_place (c.stand (omega (arith, e))) j d m (cases_lt j at);
  end = λ m. absurd (some (zero_behind es count at (c.end (omega (arith, m))) h c.most l));
}
  where
    by_place : ((j d : ℕ) → j < at → get_or es j d ≢ 0) → (j d : ℕ) → j < at + 1 → (j < at) ⊎ (at ≤ j)
        → get_or es j d ≢ 0
    by_place before j d m (inl n) = before j d n
    by_place before j d m (inr n) =
        let same : at ≡ j = omega (arith, m, n) in
        λ z. some (get_or_default es at 0 d l ∙ ap (λ (k : ℕ). get_or es k d) same ∙ z)

pub counts_same : (es : List ℕ) (at count : ℕ) → at < length es → Counts es at count → get_or es at 0 ≡ 0
    → Counts es (at + 1) count
counts_same es at count l c z = record {
  most = omega (arith, c.most);
  stand = λ e. absurd (omega (arith, e, c.most));
  end = λ m. by_place (cases_lt count at);
}
  where
    by_place : (count < at) ⊎ (at ≤ count) → EndsAt es count
    by_place (inl n) = c.end n
    by_place (inr n) =
        let same : at ≡ count = omega (arith, n, c.most) in
        subst (EndsAt es) same (ends_here es at l (c.stand (sym same)) z)

pub counts_all : (es : List ℕ) (n : ℕ) → n ≡ length es → Counts es n n → All (λ (e : ℕ). e ≢ 0) es
counts_all es n e c = λ k d l. c.stand refl k d (omega (arith, e, l))

-- ---- a line of zeros

pub zeros_below : (n : ℕ) (es : List ℕ) → All (λ (d : ℕ). d ≡ 0) es → All (NamesBelow n) es
zeros_below n es h = λ k d lt some. absurd (some (h k d lt))

pub zeros_end : (es : List ℕ) → All (λ (d : ℕ). d ≡ 0) es → HasEnd es
zeros_end [] h = tt
zeros_end (e ∷ es) h = (λ z. tail_of (λ (d : ℕ). d ≡ 0) e es h, zeros_end es (tail_of (λ (d : ℕ). d ≡ 0) e es h))
