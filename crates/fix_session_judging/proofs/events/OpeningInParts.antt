-- What a Logon says, as the code reads it, is what it says in the style of the table.
use Rattle.std.proofs.Common.{◌≡◌, ℕ, suc, Bool, true, false, cond, ◌&&◌, not, ltb, eqb, List, [], ◌∷◌, length, Option, Some, None, Result, Ok, Err, is_ok, ok_or, find, option_and_then, refl, sym, ap, ◌∙◌, arith}
use Rattle.std.specs.Option.{option_eq}
use Rattle.std.specs.Result.{result_ok, result_map_both}
use Rattle.std.specs.Str.{bytes_eq}
use Rattle.std.proofs.lemmas.Bool.Decides.{nat_tests}
use Rattle.spread_rules_ids.specs.Ids.{id_of}
use Rattle.fix_wire_values.specs.declared.values.Unread.{Unread}
use Rattle.fix_wire_values.specs.Values.{number_in}
use Rattle.fix_wire_frames.specs.Messages.{get, kind}
use Rattle.fix_wire_frames.specs.code.Messages.{given_number}
use Rattle.fix_session_kinds.specs.Table.{◌>>=◌, value_at, id_at, choice_at, reason_of, read_at}
use Rattle.fix_session_judging.specs.declared.session.Logon.{Logon}
use Rattle.fix_session_judging.specs.View.{logon_of}
use Rattle.fix_session_judging.specs.code.Openings.{given_id, is_opening, logon_by_parts}

-- ---- one field

-- the value of a field, which has to stand and hold something
abbrev value_in : Option (List ℕ) → Result (List ℕ) ℕ
value_in o = ok_or o 1 >>= λ text. cond (ltb 0 (length text)) (Ok text) (Err 4)

some_byte : (b : ℕ) (bs : List ℕ) → ltb 0 (suc (length bs)) ≡ true
some_byte b bs = grind (arith, nat_tests)

or_none : {A : Type 0} (o : Option A) (e : ℕ) → result_ok (ok_or o e) ≡ o
or_none None e = refl
or_none (Some x) e = refl

id_same : (o : Option (List ℕ)) → result_ok (value_in o >>= λ text. ok_or (id_of text) 5) ≡ option_and_then id_of o
id_same None = refl
id_same (Some []) = refl
id_same (Some (b ∷ bs)) =
    ap (λ v. result_ok (cond {A = Result (List ℕ) ℕ} v (Ok (b ∷ bs)) (Err 4) >>= λ text. ok_or (id_of text) 5))
    (some_byte b bs)
    ∙ or_none (id_of (b ∷ bs)) 5

or_reason : (r : Result ℕ Unread) → result_ok (result_map_both (λ x. x) reason_of r) ≡ result_ok r
or_reason (Ok n) = refl
or_reason (Err e) = refl

number_same : (o : Option (List ℕ)) → result_ok (value_in o >>= λ text. result_map_both (λ x. x) reason_of
    (number_in text)) ≡ option_and_then (λ text. result_ok (number_in text)) o
number_same None = refl
number_same (Some []) = refl
number_same (Some (b ∷ bs)) =
    ap (λ v. result_ok (cond {A = Result (List ℕ) ℕ} v (Ok (b ∷ bs)) (Err 4) >>= λ text. result_map_both (λ x. x)
    reason_of (number_in text))) (some_byte b bs)
    ∙ or_reason (number_in (b ∷ bs))

found : (v : Bool) → is_ok {T = ℕ} {E = ℕ} (ok_or (cond {A = Option ℕ} v (Some 48) None) 5) ≡ v
found true = refl
found false = refl

choice_same : (o : Option (List ℕ)) → is_ok (value_in o >>= λ text. ok_or (find (λ a. bytes_eq text (a ∷ [])) (48 ∷ []))
    5) ≡ option_eq bytes_eq o (Some (48 ∷ []))
choice_same None = refl
choice_same (Some []) = refl
choice_same (Some (b ∷ bs)) =
    ap (λ v. is_ok (cond {A = Result (List ℕ) ℕ} v (Ok (b ∷ bs)) (Err 4) >>= λ text. ok_or
    (find (λ a. bytes_eq text (a ∷ [])) (48 ∷ [])) 5)) (some_byte b bs)
    ∙ found (bytes_eq (b ∷ bs) (48 ∷ []))

-- ---- one field after another

ok_then : {A B : Type 0} (r : Result A ℕ) (f : A → Result B ℕ)
    → result_ok (r >>= f) ≡ option_and_then (λ x. result_ok (f x)) (result_ok r)
ok_then (Ok x) f = refl
ok_then (Err e) f = refl

under : {A B : Type 0} (f g : A → Option B) → ((x : A) → f x ≡ g x) → (o : Option A)
    → option_and_then f o ≡ option_and_then g o
under f g e None = refl
under f g e (Some x) = e x

-- two that have to stand, whatever they hold
both_stand : {A B C : Type 0} (s : Result A ℕ) (c : Result B ℕ) (r : Result C ℕ)
    → result_ok (s >>= λ x. c >>= λ y. r) ≡ cond (is_ok s && is_ok c) (result_ok r) None
both_stand (Ok x) (Ok y) r = refl
both_stand (Ok x) (Err e) r = refl
both_stand (Err e) c r = refl

abbrev logon : List ℕ → List ℕ → ℕ → Logon
logon client host beat = record { client = client; host = host; beat = beat }

abbrev with_beat : List ℕ → List ℕ → List ℕ → Result Logon ℕ
with_beat m client host = read_at number_in 108 m >>= λ beat. Ok (logon client host beat)

abbrev with_host : List ℕ → List ℕ → Result Logon ℕ
with_host m client = id_at 56 m >>= λ host. with_beat m client host

abbrev with_client : List ℕ → Result Logon ℕ
with_client m = id_at 49 m >>= λ client. with_host m client

-- the same as options
abbrev beat_given : List ℕ → List ℕ → List ℕ → Option Logon
beat_given m client host = option_and_then (λ beat. Some (logon client host beat)) (given_number 108 m)

abbrev host_given : List ℕ → List ℕ → Option Logon
host_given m client = option_and_then (beat_given m client) (given_id 56 m)

beat_is : (m client host : List ℕ) → result_ok (with_beat m client host) ≡ beat_given m client host
beat_is m client host =
    ok_then (read_at number_in 108 m) (λ beat. Ok (logon client host beat))
    ∙ ap (option_and_then (λ beat. Some (logon client host beat))) (number_same (get 108 m))

host_is : (m client : List ℕ) → result_ok (with_host m client) ≡ host_given m client
host_is m client =
    ok_then (id_at 56 m) (with_beat m client)
    ∙ (ap (option_and_then (λ host. result_ok (with_beat m client host))) (id_same (get 56 m))
    ∙ under (λ host. result_ok (with_beat m client host)) (beat_given m client) (beat_is m client) (given_id 56 m))

client_is : (m : List ℕ) → result_ok (with_client m) ≡ option_and_then (host_given m) (given_id 49 m)
client_is m =
    ok_then (id_at 49 m) (with_host m)
    ∙ (ap (option_and_then (λ client. result_ok (with_host m client))) (id_same (get 49 m))
    ∙ under (λ client. result_ok (with_host m client)) (host_given m) (host_is m) (given_id 49 m))

-- ---- the Logon

by_tests : (k s c : Bool) (o : Option Logon) → cond (not k) None (cond (s && c) o None) ≡ cond (not (k && s && c)) None
    o
by_tests true true true o = refl
by_tests true true false o = refl
by_tests true false c o = refl
by_tests false s c o = refl

pub logon_is : (m : List ℕ) (n : ℕ) → logon_of m n ≡ logon_by_parts m n
unfolding logon_of logon_by_parts
logon_is m n =
    let k = bytes_eq (kind m) (65 ∷ []) && eqb n 1 in
    ap (λ (o : Option Logon). cond (not k) None o) (both_stand (value_at 52 m) (choice_at (48 ∷ []) 98 m)
    (with_client m))
    ∙ (by_tests k (is_ok (value_at 52 m)) (is_ok (choice_at (48 ∷ []) 98 m)) (result_ok (with_client m))
    ∙ (ap (λ (c : Bool). cond {A = Option Logon} (not (k && is_ok (value_at 52 m) && c)) None
    (result_ok (with_client m))) (choice_same (get 98 m))
    ∙ ap (λ (o : Option Logon). cond (not (is_opening m n)) None o) (client_is m)))

-- what is read part by part
pub by_parts : (o : Option Logon) (m : List ℕ) (n : ℕ) → o ≡ logon_by_parts m n → o ≡ logon_of m n
by_parts o m n e = e ∙ sym (logon_is m n)
