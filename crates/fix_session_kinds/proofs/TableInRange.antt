-- What the table gives is in range, and is neither a Logon nor a Close.
use Rattle.std.proofs.Common.{◌≡◌, ℕ, ◌<◌, ◌≤◌, Bool, true, false, ◌&&◌, ◌||◌, not, List, [], ◌∷◌, ◌++◌, Option, Some, None, length, take, drop, refl, sym, subst, arith, inl, inr, ◌⊎◌}
use Rattle.std.specs.Prelude.{ℤ, pos, neg_ℤ, nat_le, nat_lt, ◌==◌, if◌then◌else◌, Result, Ok, Err, ok_or, is_none, find, slice_index}
use Rattle.std.specs.List.{list_all, before_first, after_first}
use Rattle.std.specs.Result.{result_map_both}
use Rattle.std.specs.Str.{bytes_eq}
use Rattle.std.proofs.lemmas.Bool.{false≢true}
use Rattle.std.proofs.lemmas.Bool.Decides.{nat_tests}
use Rattle.std.proofs.lemmas.Int.{ints}
use Rattle.spread_rules_ids.specs.Ids.{is_id, id_of}
use Rattle.spread_rules.specs.Journal.{FitsTicket, FitsEvent, is_reject_reason, is_logon, is_close}
use Rattle.spread_rules_rulebook.specs.Prices.{IsOrderPrice}
use Rattle.spread_rules.specs.declared.event.Event.{Event}
use Rattle.spread_rules.specs.declared.event.Event.TheVariants as events
use Rattle.fix_wire_values.specs.declared.values.Unread.{Unread}
use Rattle.fix_wire_values.specs.declared.values.Unread.TheVariants.{Format, Range}
use Rattle.fix_wire_values.specs.Digits.{number_of}
use Rattle.fix_wire_values.specs.code.Digits.{is_point, is_zero}
use Rattle.fix_wire_values.specs.Values.{is_number, within, number_in, quantity_in, hundredths_in, price_in}
use Rattle.fix_wire_values.specs.code.Values.{hundredths}
use Rattle.fix_wire_frames.specs.Messages.{get, kind}
use Rattle.fix_session_kinds.specs.declared.table.Meaning.{Meaning}
use Rattle.fix_session_kinds.specs.declared.table.Meaning.TheVariants.{Nothing, Says, GapFill}
use Rattle.fix_session_kinds.specs.Table.{◌>>=◌, value_at, id_at, reason_of, read_at, number_at, choice_at, choice_or, test_request, resend_request, sequence_reset, new_order, cancel_request, replace_request, meaning_by, meaning_of_message}
use Rattle.fix_session_kinds.specs.code.ByKind.{known, meaning_of_kind, meaning_of_kind_text}
use Rattle.fix_session_kinds.proofs.KindOfBytes.{meaning_is}

-- a result of that kind, or a reason to reject
abbrev pub Holds : {A : Type 0} → (A → Type 0) → Result A ℕ → Type 0
Holds P (Ok x) = P x
Holds P (Err e) = is_reject_reason e ≡ true

abbrev Any : {A : Type 0} → A → Type 0
Any x = Unit {0}

-- in range, and neither a Logon nor a Close
pub record IsGiven (e : Event) : Type 0 where
  pub fits : FitsEvent e
  pub no_logon : is_logon e ≡ false
  pub no_close : is_close e ≡ false

abbrev pub FitsMeaning : ℕ → Meaning → Type 0
FitsMeaning n Nothing = Unit {0}
FitsMeaning n (Says e) = IsGiven e
FitsMeaning n (GapFill next) = n < next

chained : {A B : Type 0} (P : A → Type 0) (Q : B → Type 0) (r : Result A ℕ) (f : A → Result B ℕ) → Holds P r
    → ((x : A) → P x → Holds Q (f x)) → Holds Q (r >>= f)
chained P Q (Ok x) f h g = g x h
chained P Q (Err e) f h g = h

either : {A : Type 0} (P : A → Type 0) (v : Bool) (r s : Result A ℕ) → Holds P r → Holds P s
    → Holds P (if v then r else s)
either P true r s h g = h
either P false r s h g = g

-- ---- one field

value_holds : (tag : ℕ) (m : List ℕ) → Holds Any (value_at tag m)
value_holds tag m = by_text (get tag m)
  where
    by_text : (o : Option (List ℕ)) → Holds Any (ok_or o 1 >>= λ text. if nat_lt 0 (length text) then Ok text else Err
        4)
    by_text None = refl
    by_text (Some text) = either Any (nat_lt 0 (length text)) (Ok text) (Err 4) tt refl

abbrev IsId : List ℕ → Type 0
IsId text = is_id text ≡ true

id_of_holds : (text : List ℕ) → Holds IsId (ok_or (id_of text) 5)
id_of_holds text = by_test (is_id text) refl
  where
    by_test : (v : Bool) → is_id text ≡ v → Holds IsId (ok_or (if v then Some text else None) 5)
    by_test true e = e
    by_test false e = refl

id_holds : (tag : ℕ) (m : List ℕ) → Holds IsId (id_at tag m)
id_holds tag m = chained Any IsId (value_at tag m) (λ text. ok_or (id_of text) 5) (value_holds tag m)
    (λ text h. id_of_holds text)

-- with the reason in place of the fault
abbrev or_reason : {A : Type 0} → Result A Unread → Result A ℕ
or_reason r = result_map_both (λ x. x) reason_of r

within_holds : (most n : ℕ) → Holds (λ x. x ≤ most) (or_reason (within most n))
within_holds most n = by_test (nat_le n most) refl
  where
    by_test : (v : Bool) → nat_le n most ≡ v → Holds (λ x. x ≤ most) (or_reason (if v then Ok n else Err Range))
    by_test true e = grind (arith, nat_tests)
    by_test false e = refl

abbrev IsShort : ℕ → Type 0
IsShort n = n ≤ 999999999

number_in_holds : (text : List ℕ) → Holds IsShort (or_reason (number_in text))
number_in_holds text = by_test (is_number text)
  where
    by_test : (v : Bool) → Holds IsShort (or_reason (if v then within 999999999 (number_of text) else Err Format))
    by_test true = within_holds 999999999 (number_of text)
    by_test false = refl

number_holds : (tag : ℕ) (m : List ℕ) → Holds IsShort (read_at number_in tag m)
number_holds tag m = chained Any IsShort (value_at tag m) (λ text. or_reason (number_in text)) (value_holds tag m)
    (λ text h. number_in_holds text)

quantity_in_holds : (text : List ℕ) → Holds IsShort (or_reason (quantity_in text))
quantity_in_holds text = by_test (is_number (before_first is_point text) && list_all is_zero
    (after_first is_point text))
  where
    by_test : (v : Bool) → Holds IsShort (or_reason (if v then within 999999999 (number_of (before_first is_point text))
        else Err Format))
    by_test true = within_holds 999999999 (number_of (before_first is_point text))
    by_test false = refl

quantity_holds : (tag : ℕ) (m : List ℕ) → Holds IsShort (read_at quantity_in tag m)
quantity_holds tag m = chained Any IsShort (value_at tag m) (λ text. or_reason (quantity_in text)) (value_holds tag m)
    (λ text h. quantity_in_holds text)

price_of : (negative : Bool) (n : ℕ) → n ≤ 1000000000 → IsOrderPrice (if negative then neg_ℤ (pos n) else pos n)
price_of true n h = record { low = omega (arith, ints, h); high = omega (arith, ints, h) }
price_of false n h = record { low = omega (arith, ints, h); high = omega (arith, ints, h) }

abbrev signed : Bool → Result ℕ Unread → Result ℤ Unread
signed negative r = result_map_both (λ n. if negative then neg_ℤ (pos n) else pos n) (λ e. e) r

signed_holds : (negative : Bool) (r : Result ℕ Unread) → Holds (λ x. x ≤ 1000000000) (or_reason r)
    → Holds IsOrderPrice (or_reason (signed negative r))
signed_holds negative (Ok n) h = price_of negative n h
signed_holds negative (Err fault) h = h

hundredths_in_form : (whole part : List ℕ) → Holds (λ x. x ≤ 1000000000) (or_reason (hundredths whole part))
hundredths_in_form whole part = by_form (is_number (whole ++ part)) (list_all is_zero (drop 2 part))
  where
    by_form : (v w : Bool) → Holds (λ x. x ≤ 1000000000)
        (or_reason (if not v then Err Format else (if w then within 1000000000
        (number_of (whole ++ take 2 (part ++ 48 ∷ 48 ∷ []))) else Err Range)))
    by_form true true = within_holds 1000000000 (number_of (whole ++ take 2 (part ++ 48 ∷ 48 ∷ [])))
    by_form true false = refl
    by_form false w = refl

hundredths_holds : (text : List ℕ) → Holds (λ x. x ≤ 1000000000) (or_reason (hundredths_in text))
hundredths_holds text = hundredths_in_form (before_first is_point text) (after_first is_point text)

price_in_holds : (text : List ℕ) → Holds IsOrderPrice (or_reason (price_in text))
price_in_holds text = by_sign (slice_index text 0 == 45)
  where
    by_sign : (v : Bool) → Holds IsOrderPrice (or_reason
        (if v then signed true (hundredths_in (drop 1 text)) else signed false (hundredths_in text)))
    by_sign true = signed_holds true (hundredths_in (drop 1 text)) (hundredths_holds (drop 1 text))
    by_sign false = signed_holds false (hundredths_in text) (hundredths_holds text)

price_holds : (tag : ℕ) (m : List ℕ) → Holds IsOrderPrice (read_at price_in tag m)
price_holds tag m = chained Any IsOrderPrice (value_at tag m) (λ text. or_reason (price_in text)) (value_holds tag m)
    (λ text h. price_in_holds text)

found_holds : (o : Option ℕ) → Holds Any (ok_or o 5)
found_holds None = refl
found_holds (Some b) = tt

choice_holds : (allowed : List ℕ) (tag : ℕ) (m : List ℕ) → Holds Any (choice_at allowed tag m)
choice_holds allowed tag m = chained Any Any (value_at tag m) _ (value_holds tag m)
    (λ text h. found_holds (find (λ a. bytes_eq text (a ∷ [])) allowed))

-- a number for which a test holds
abbrev Passes : (ℕ → Bool) → ℕ → Type 0
Passes test n = IsShort n × (test n ≡ true)

tested_holds : (test : ℕ → Bool) (tag : ℕ) (m : List ℕ) → Holds (Passes test) (number_at test tag m)
tested_holds test tag m = chained IsShort (Passes test) (read_at number_in tag m) _ (number_holds tag m)
    (λ n short. by_test n short (test n) refl)
  where
    by_test : (n : ℕ) → IsShort n → (v : Bool) → test n ≡ v → Holds (Passes test) (if v then Ok n else Err 5)
    by_test n short true e = (short, e)
    by_test n short false e = refl

choice_or_holds : (missing : Result ℕ ℕ) (allowed : List ℕ) (tag : ℕ) (m : List ℕ) → Holds Any missing
    → Holds Any (choice_or missing allowed tag m)
choice_or_holds missing allowed tag m h = either Any (is_none (get tag m)) missing (choice_at allowed tag m) h
    (choice_holds allowed tag m)

-- ---- one kind

test_request_holds : (m : List ℕ) (n : ℕ) → Holds (FitsMeaning n) (test_request m)
unfolding test_request
test_request_holds m n =
    chained IsId (FitsMeaning n) (id_at 112 m) _ (id_holds 112 m) (λ text id.
    record { fits = id; no_logon = refl; no_close = refl })

last_number : (first end : ℕ) → end ≤ 999999999 → ((end == 0) || nat_le first end) ≡ true
    → (end ≡ 0) ⊎ ((first ≤ end) × (end ≤ 999999999))
last_number first end most e = by_test (end == 0) (nat_le first end) refl refl e
  where
    by_test : (v w : Bool) → (end == 0) ≡ v → nat_le first end ≡ w → (v || w) ≡ true
        → (end ≡ 0) ⊎ ((first ≤ end) × (end ≤ 999999999))
    by_test true w h g t = inl (grind (arith, nat_tests))
    by_test false true h g t = inr (grind (arith, nat_tests), most)
    by_test false false h g t = absurd (false≢true t)

resend_request_holds : (m : List ℕ) (n : ℕ) → Holds (FitsMeaning n) (resend_request m)
unfolding resend_request
resend_request_holds m n =
    chained (Passes (λ x. nat_le 1 x)) (FitsMeaning n) (number_at (λ x. nat_le 1 x) 7 m) _
    (tested_holds (λ x. nat_le 1 x) 7 m) (λ first begins.
    chained (Passes (λ x. (x == 0) || nat_le first x)) (FitsMeaning n)
    (number_at (λ x. (x == 0) || nat_le first x) 16 m) _ (tested_holds (λ x. (x == 0) || nat_le first x) 16 m)
    (λ last ends.
    let from : 1 ≤ first = grind (arith, nat_tests) in
    record { fits = ((from, begins.0), last_number first last ends.0 ends.1); no_logon = refl; no_close = refl }))

sequence_reset_holds : (m : List ℕ) (n : ℕ) → Holds (FitsMeaning n) (sequence_reset m n)
unfolding sequence_reset
sequence_reset_holds m n =
    chained (Passes (λ x. nat_lt n x)) (FitsMeaning n) (number_at (λ x. nat_lt n x) 36 m) _
    (tested_holds (λ x. nat_lt n x) 36 m) (λ next above.
    chained Any (FitsMeaning n) (choice_or (Err 5) (89 ∷ []) 123 m) _ (choice_or_holds (Err 5) (89 ∷ []) 123 m refl)
    (λ flag set.
    let over : n < next = grind (arith, nat_tests) in over))

new_order_holds : (m : List ℕ) → Holds FitsTicket (new_order m)
unfolding new_order
new_order_holds m =
    chained IsId FitsTicket (id_at 11 m) _ (id_holds 11 m) (λ id is_id.
    chained Any FitsTicket (choice_at (49 ∷ 50 ∷ 51 ∷ []) 21 m) _ (choice_holds (49 ∷ 50 ∷ 51 ∷ []) 21 m) (λ handling b.
    chained IsId FitsTicket (id_at 55 m) _ (id_holds 55 m) (λ symbol is_symbol.
    chained Any FitsTicket (choice_at (49 ∷ 50 ∷ []) 54 m) _ (choice_holds (49 ∷ 50 ∷ []) 54 m) (λ side c.
    chained Any FitsTicket (value_at 60 m) _ (value_holds 60 m) (λ time d.
    chained IsShort FitsTicket (read_at quantity_in 38 m) _ (quantity_holds 38 m) (λ quantity short.
    chained Any FitsTicket (choice_at (50 ∷ []) 40 m) _ (choice_holds (50 ∷ []) 40 m) (λ type e.
    chained IsOrderPrice FitsTicket (read_at price_in 44 m) _ (price_holds 44 m) (λ price is_price.
    chained Any FitsTicket (choice_or (Ok 48) (48 ∷ 51 ∷ []) 59 m) _ (choice_or_holds (Ok 48) (48 ∷ 51 ∷ []) 59 m tt)
    (λ time_in_force f.
    record { id = is_id; symbol = is_symbol; quantity = short; price = is_price })))))))))

cancel_request_holds : (m : List ℕ) (n : ℕ) → Holds (FitsMeaning n) (cancel_request m)
unfolding cancel_request
cancel_request_holds m n =
    chained IsId (FitsMeaning n) (id_at 41 m) _ (id_holds 41 m) (λ original is_original.
    chained IsId (FitsMeaning n) (id_at 11 m) _ (id_holds 11 m) (λ id is_id.
    chained IsId (FitsMeaning n) (id_at 55 m) _ (id_holds 55 m) (λ symbol b.
    chained Any (FitsMeaning n) (choice_at (49 ∷ 50 ∷ []) 54 m) _ (choice_holds (49 ∷ 50 ∷ []) 54 m) (λ side c.
    chained Any (FitsMeaning n) (value_at 60 m) _ (value_holds 60 m) (λ time d.
    record { fits = (is_id, is_original); no_logon = refl; no_close = refl })))))

replace_request_holds : (m : List ℕ) (n : ℕ) → Holds (FitsMeaning n) (replace_request m)
unfolding replace_request
replace_request_holds m n =
    chained IsId (FitsMeaning n) (id_at 41 m) _ (id_holds 41 m) (λ original is_original.
    chained FitsTicket (FitsMeaning n) (new_order m) _ (new_order_holds m) (λ ticket fits.
    record { fits = (is_original, fits); no_logon = refl; no_close = refl }))

-- ---- the table

new_holds : (m : List ℕ) (n : ℕ) → Holds (FitsMeaning n) (new_order m >>= λ ticket. Ok (Says (events.New ticket)))
new_holds m n = chained FitsTicket (FitsMeaning n) (new_order m) _ (new_order_holds m)
    (λ t fits. record { fits = fits; no_logon = refl; no_close = refl })

-- what a kind says is in range, if it is known
abbrev IsKnown : ℕ → Option (Result Meaning ℕ) → Type 0
IsKnown n None = Unit {0}
IsKnown n (Some r) = Holds (FitsMeaning n) r

either_known : (n : ℕ) (v : Bool) (o p : Option (Result Meaning ℕ)) → IsKnown n o → IsKnown n p
    → IsKnown n (if v then o else p)
either_known n true o p h g = h
either_known n false o p h g = g

by_kind : (k : ℕ) (m : List ℕ) (n : ℕ) → IsKnown n (meaning_by (λ type. k == type) m n)
by_kind k m n =
    either_known n ((k == 48) || (k == 51)) _ _ tt (
    either_known n (k == 49) _ _ (test_request_holds m n) (
    either_known n (k == 50) _ _ (resend_request_holds m n) (
    either_known n (k == 52) _ _ (sequence_reset_holds m n) (
    either_known n (k == 68) _ _ (new_holds m n) (
    either_known n (k == 70) _ _ (cancel_request_holds m n) (
    either_known n (k == 71) _ _ (replace_request_holds m n) tt))))))

known_holds : (o : Option (Result Meaning ℕ)) (m : List ℕ) (n : ℕ) → IsKnown n o → Holds (FitsMeaning n) (known o m)
known_holds None m n h = refl
known_holds (Some r) m n h = chained Any (FitsMeaning n) (value_at 52 m) (λ stamp. r) (value_holds 52 m)
    (λ stamp stands. h)

kind_holds : (k : ℕ) (m : List ℕ) (n : ℕ) → Holds (FitsMeaning n) (meaning_of_kind k m n)
kind_holds k m n = known_holds (meaning_by (λ type. k == type) m n) m n (by_kind k m n)

with_holds : (kind m : List ℕ) (n : ℕ) → Holds (FitsMeaning n) (meaning_of_kind_text kind m n)
with_holds [] m n = refl
with_holds (k ∷ []) m n = kind_holds k m n
with_holds (k ∷ l ∷ ks) m n = refl

pub meaning_holds : (m : List ℕ) (n : ℕ) → Holds (FitsMeaning n) (meaning_of_message m n)
meaning_holds m n = subst (Holds (FitsMeaning n)) (sym (meaning_is m n)) (with_holds (kind m) m n)
