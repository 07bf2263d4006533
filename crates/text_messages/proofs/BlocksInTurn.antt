-- Texts that are put by way of a block, one after another.
use Rattle.std.proofs.Common.{◌≡◌, ℕ, ◌+◌, ◌/◌, ◌%◌, ◌<◌, ◌≤◌, Bool, true, List, [], ◌∷◌, ◌++◌, length, map, take, decimal, Option, Result, Ok, Err, IsErrAnd, OnOk, OnErr, sym, ap, ◌∙◌, arith, subst, append_assoc, append-nil, length-append}
use Rattle.std.proofs.KnownBytes.{Appends-trans, Appends-nil}
use Rattle.std.proofs.Math.Seq.{take-append-add}
use Rattle.std.proofs.lemmas.Fmt.{decimal_step, decimal_digit}
use Rattle.std.proofs.lemmas.List.{map-append, take-append-le}
use Rattle.std.specs.Io.KnownBytes.{Appends}
use Rattle.spread_rules_ends.specs.Ends.{AppendsPrefix}
use Rattle.text_messages.specs.code.Blocks.{IsPut, Puts, Writes}

-- of a call whose result is handed on
pub on_err : {T E P Q : Type 0} (r : Result T E) → (P → Q) → OnErr r P → OnErr r Q
on_err (Ok x) f p = tt
on_err (Err e) f p = f p

pub of_err : {T E P : Type 0} (r : Result T E) (e : E) → r ≡ Err e → OnErr r P → P
of_err {P = P} r e is p = subst (λ (x : Result _ _). OnErr x P) is p

pub on_ok_any : {T E P : Type 0} (r : Result T E) → P → OnOk r P
on_ok_any (Ok x) p = p
on_ok_any (Err e) p = tt

pub on_ok : {T E P Q : Type 0} (r : Result T E) → (P → Q) → OnOk r P → OnOk r Q
on_ok (Ok x) f p = f p
on_ok (Err e) f p = tt

-- of a call that hands on the fault that another met
pub none_on_err : {T E : Type 0} (P : Type 0) (Q : E → Type 0) (r : Result T E) → IsErrAnd r Q → OnOk r P
none_on_err P Q (Ok x) is = absurd is
none_on_err P Q (Err e) is = tt

pub put_stops : {T E : Type 0} {old new : Option (List ℕ)} {has_failed : Bool} {block text : List ℕ} (Q : E → Type 0)
    (r : Result T E) → IsErrAnd r Q
    → has_failed ≡ true → AppendsPrefix old new text → Puts r old new has_failed block text
put_stops Q (Ok x) is failed front = absurd is
put_stops Q (Err e) is failed front = record { put = tt; sound = tt; failed = failed; front = front }

pub write_stops : {T E : Type 0} {old new : Option (List ℕ)} {has_failed : Bool} {text : List ℕ} (Q : E → Type 0)
    (r : Result T E) → IsErrAnd r Q
    → has_failed ≡ true → AppendsPrefix old new text → Writes r old new has_failed text
write_stops Q (Ok x) is failed front = absurd is
write_stops Q (Err e) is failed front = record { all = tt; sound = tt; failed = failed; front = front }

-- a text was written, and a front of the next
pub front_after : (a b c : Option (List ℕ)) (xs ys : List ℕ) → Appends a b xs → AppendsPrefix b c ys
    → AppendsPrefix a c (xs ++ ys)
front_after a b c xs ys first second =
    let e : length (xs ++ ys) ≡ length xs + length ys = length-append xs ys in
    let n = second.0 in
    let most : n ≤ length ys = second.1 in (
      length xs + n,
      omega (arith, e, most),
      subst (λ (t : List ℕ). Appends a c t) (sym (take-append-add xs ys n))
          (Appends-trans a b c xs (take n ys) first second.2),
    )

-- a front of a text is one of a longer text
pub front_of_more : (a b : Option (List ℕ)) (xs ys : List ℕ) → AppendsPrefix a b xs → AppendsPrefix a b (xs ++ ys)
front_of_more a b xs ys front =
    let e : length (xs ++ ys) ≡ length xs + length ys = length-append xs ys in
    let n = front.0 in
    let most : n ≤ length xs = front.1 in
    (n, omega (arith, e, most), subst (λ (t : List ℕ). Appends a b t) (sym (take-append-le n xs ys most)) front.2)

-- more stands in the block
pub put_more : (a b : Option (List ℕ)) (old new text bytes : List ℕ) → IsPut a b old text → new ≡ old ++ bytes
    → IsPut a b new (text ++ bytes)
put_more a b old new text bytes put is = record {
  out = put.out;
  written = put.written;
  all = ap (λ (t : List ℕ). t ++ bytes) put.all ∙ (append_assoc put.out old bytes
      ∙ ap (λ (p : List ℕ). put.out ++ p) (sym is));
}

-- one text after another
pub put_after : (a b c : Option (List ℕ)) (old mid new xs ys : List ℕ) → IsPut a b mid (old ++ xs)
    → IsPut b c new (mid ++ ys) → IsPut a c new (old ++ (xs ++ ys))
put_after a b c old mid new xs ys first second = record {
  out = first.out ++ second.out;
  written = Appends-trans a b c first.out second.out first.written second.written;
  all = sym (append_assoc old xs ys)
      ∙ (ap (λ (t : List ℕ). t ++ ys) first.all
      ∙ (append_assoc first.out mid ys
      ∙ (ap (λ (t : List ℕ). first.out ++ t) second.all
      ∙ sym (append_assoc first.out second.out new))));
}

-- where the second fails, a front of both and more is out
pub put_fails : (a b c : Option (List ℕ)) (old mid xs ys rest all : List ℕ) → IsPut a b mid (old ++ xs)
    → AppendsPrefix b c (mid ++ ys) → all ≡ xs ++ (ys ++ rest) → AppendsPrefix a c (old ++ all)
put_fails a b c old mid xs ys rest all first second is =
    let front = front_of_more a c (first.out ++ (mid ++ ys)) rest
    (front_after a b c first.out (mid ++ ys) first.written second) in
    let same : (first.out ++ (mid ++ ys)) ++ rest ≡ old ++ all =
    ap (λ (t : List ℕ). t ++ rest) (sym (append_assoc first.out mid ys)
    ∙ (ap (λ (t : List ℕ). t ++ ys) (sym first.all) ∙ append_assoc old xs ys))
    ∙ (append_assoc old (xs ++ ys) rest ∙ ap (λ (t : List ℕ). old ++ t) (append_assoc xs ys rest ∙ sym is)) in
    subst (λ (t : List ℕ). AppendsPrefix a c t) same front

-- before the first text
pub put_none : (a : Option (List ℕ)) (block : List ℕ) → IsPut a a block (block ++ [])
put_none a block = record { out = []; written = Appends-nil a; all = append-nil block }

-- what was put behind an empty block, which then was given on
pub put_and_given : {T E : Type 0} (r : Result T E) (a b c : Option (List ℕ)) (has_failed : Bool)
    (old block text : List ℕ) → old ≡ [] → IsPut a b block (old ++ text) → Writes r b c has_failed block
    → Writes r a c has_failed text
put_and_given (Ok x) a b c has_failed old block text empty put last =
    let all : text ≡ put.out ++ block = sym (ap (λ (t : List ℕ). t ++ text) empty) ∙ put.all in record {
      all = subst (λ (t : List ℕ). Appends a c t) (sym all) (Appends-trans a b c put.out block put.written last.all);
      sound = last.sound;
      failed = tt;
      front = tt;
    }
put_and_given (Err e) a b c has_failed old block text empty put last =
    let all : text ≡ put.out ++ block = sym (ap (λ (t : List ℕ). t ++ text) empty) ∙ put.all in record {
      all = tt;
      sound = tt;
      failed = last.failed;
      front = subst (λ (t : List ℕ). AppendsPrefix a c t) (sym all)
          (front_after a b c put.out block put.written last.front);
    }
