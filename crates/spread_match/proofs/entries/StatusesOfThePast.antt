-- the statuses that a past gives, after one entry more
use Rattle.std.proofs.Common.{◌≡◌, ℕ, ◌==◌, Bool, true, false, not, ◌&&◌, ◌||◌, cond, List, [], ◌∷◌, ◌++◌, map, Contains, Option, Some, None, inl, inr, refl, ap, ◌∙◌, sym, append-nil, append_assoc, arith}
use Rattle.std.proofs.Math.Bool.{or-false}
use Rattle.std.proofs.lemmas.Bool.{and_parts}
use Rattle.std.specs.List.{list_any, find}
use Rattle.std.specs.Str.{bytes_eq}
use Rattle.std.proofs.lemmas.Bool.Decides.{nat_tests}
use Rattle.std.proofs.lemmas.List.{map-append}
use Rattle.std.proofs.lemmas.Slice.Eq.{bytes_eq-Decides}
use Rattle.spread_rules.specs.declared.fill.Fill.{Fill}
use Rattle.spread_rules.specs.declared.event.Entry.{Entry}
use Rattle.spread_rules.specs.declared.event.Event.{Event}
use Rattle.spread_rules.specs.declared.event.Event.TheVariants.{Logon, New, Cancel, Replace, TestReply, Gap, Resend, Reject, Close}
use Rattle.spread_rules.specs.declared.event.Ticket.{Ticket}
use Rattle.spread_rules.specs.declared.outcome.Outcome.{Outcome}
use Rattle.spread_rules.specs.declared.outcome.OrderStatus.{OrderStatus}
use Rattle.spread_rules.specs.code.Cases.{status_at}
use Rattle.spread_rules.specs.Meaning.{EntryMeaning, has_id, is_filled, is_refused, place_left, ticket_of}
use Rattle.spread_rules.specs.code.Meaning.{JournalState, PastTicket, is_replaced, names, asked_by, original_of, past_tickets, status_of, statuses_of, with_meaning}
use Rattle.spread_rules_rulebook.proofs.lists.Membership.{in_head, in_tail, in_cons_cases, not_in_nil}
use Rattle.spread_match_state.specs.code.StateAfter.{first_status, statuses_after_replace}
use Rattle.spread_match_statuses.specs.code.Statuses.{was_accepted, status_after_fill, status_after_replace, statuses_after}
use Rattle.spread_match.specs.Sound.{IsNamed, IsOriginalNamed}
use Rattle.spread_match_statuses.proofs.status_rows.MarkedRows.{same_number}

-- ---- tests

number_turned : (a b : ℕ) → (a == b) ≡ (b == a)
number_turned a b = by_test (a == b) refl (b == a) refl
  where
    by_test : (c : Bool) → (a == b) ≡ c → (d : Bool) → (b == a) ≡ d → c ≡ d
    by_test true e true f = refl
    by_test false e false f = refl
    by_test true e false f = grind (arith, nat_tests, e, f)
    by_test false e true f = grind (arith, nat_tests, e, f)

bytes_turned : (a b : List ℕ) → bytes_eq a b ≡ bytes_eq b a
bytes_turned a b = by_test (bytes_eq a b) refl (bytes_eq b a) refl
  where
    by_test : (c : Bool) → bytes_eq a b ≡ c → (d : Bool) → bytes_eq b a ≡ d → c ≡ d
    by_test true e true f = refl
    by_test false e false f = refl
    by_test true e false f = let k = (bytes_eq-Decides b a).1 (sym ((bytes_eq-Decides a b).0 e)) in cc
    by_test false e true f = let k = (bytes_eq-Decides a b).1 (sym ((bytes_eq-Decides b a).0 f)) in cc

pub any_more : {X : Type 0} (p : X → Bool) (xs : List X) (x : X) → list_any p (xs ++ x ∷ []) ≡ (list_any p xs || p x)
any_more p [] x = or-false (p x)
any_more p (y ∷ xs) x = ap (λ (b : Bool). p y || b) (any_more p xs x) ∙ assoc (p y) (list_any p xs) (p x)
  where
    assoc : (a b c : Bool) → (a || (b || c)) ≡ ((a || b) || c)
    assoc true b c = refl
    assoc false b c = refl

pub none_is : {X : Type 0} (p : X → Bool) (xs : List X) → ((x : X) → Contains xs x → p x ≡ true → ⊥)
    → list_any p xs ≡ false
none_is p [] h = refl
none_is p (x ∷ xs) h = by_test (p x) refl (none_is p xs (λ y c. h y (in_tail x xs y c)))
  where
    by_test : (b : Bool) → p x ≡ b → list_any p xs ≡ false → (p x || list_any p xs) ≡ false
    by_test true e n = absurd (h x (in_head x xs) e)
    by_test false e n = ap (λ (b : Bool). b || list_any p xs) e ∙ n

-- ---- a status, from what was filled and what was replaced

-- how the order of a ticket stands after these fills and these tickets
abbrev status_with : List Fill → List PastTicket → PastTicket → OrderStatus
status_with fills entered p = status_of (record { orders = []; entered = entered; fills = fills }) p

pub mark_filled_at : (r f p t : Bool) → ◌≡◌ {A = ℕ} (cond ((t && not (status_at r f p == 8))) 2 (status_at r f p))
    (status_at r (f || t) p)
mark_filled_at true f p true = refl
mark_filled_at true f p false = refl
mark_filled_at false true p true = refl
mark_filled_at false true p false = refl
mark_filled_at false false true true = refl
mark_filled_at false false true false = refl
mark_filled_at false false false true = refl
mark_filled_at false false false false = refl

pub mark_replaced_at : (r f p t : Bool) → ◌≡◌ {A = ℕ} (cond (t && status_at r f p == 4) 5 (status_at r f p))
    (status_at r f (p || t))
mark_replaced_at true f p true = refl
mark_replaced_at true f p false = refl
mark_replaced_at false true p true = refl
mark_replaced_at false true p false = refl
mark_replaced_at false false true true = refl
mark_replaced_at false false true false = refl
mark_replaced_at false false false true = refl
mark_replaced_at false false false false = refl

put_status : (b : Bool) (s : OrderStatus) (k : ℕ) → cond b (record s { status = k }) s ≡ record s
    { status = cond b k s.status }
put_status true s k = refl
put_status false s k = refl

-- ---- one fill more

filled_more : (fills : List Fill) (entered : List PastTicket) (f : Fill) (p : PastTicket)
    → status_after_fill f (status_with fills entered p) ≡ status_with (fills ++ f ∷ []) entered p
filled_more fills entered f p =
    let s = status_with fills entered p in
    let refused = is_refused p.outcome in
    let filled = is_filled p.session p.ticket.id fills in
    let replaced = is_replaced p.session p.ticket.id entered in
    let test = f.session == p.session && bytes_eq f.id p.ticket.id && f.leaves == 0 in
    let turned : (was_accepted f.session f.id s && f.leaves == 0) ≡ (test && not (s.status == 8)) =
    ap (λ (b : Bool). ((b && bytes_eq s.id f.id) && not (s.status == 8)) && f.leaves == 0)
    (number_turned p.session f.session)
    ∙ (ap (λ (b : Bool). ((f.session == p.session && b) && not (s.status == 8)) && f.leaves == 0)
    (bytes_turned p.ticket.id f.id)
    ∙ moved (f.session == p.session) (bytes_eq f.id p.ticket.id) (not (s.status == 8)) (f.leaves == 0)) in
    put_status (was_accepted f.session f.id s && f.leaves == 0) s 2
    ∙ ap (λ (k : ℕ). record s { status = k })
    (ap (λ (b : Bool). cond b 2 s.status) turned
    ∙ (mark_filled_at refused filled replaced test
    ∙ ap (λ (b : Bool). status_at refused b replaced) (sym
    (any_more (λ (g : Fill). g.session == p.session && bytes_eq g.id p.ticket.id && g.leaves == 0) fills f))))
  where
    moved : (a b c d : Bool) → (((a && b) && c) && d) ≡ (((a && b) && d) && c)
    moved true true true true = refl
    moved true true true false = refl
    moved true true false true = refl
    moved true true false false = refl
    moved true false c d = refl
    moved false b c d = refl

all_filled_more : (fills : List Fill) (entered ps : List PastTicket) (f : Fill)
    → map (status_after_fill f) (map (status_with fills entered) ps) ≡ map (status_with (fills ++ f ∷ []) entered) ps
all_filled_more fills entered [] f = refl
all_filled_more fills entered (p ∷ ps) f =
    ap (λ (s : OrderStatus). s ∷ map (status_after_fill f) (map (status_with fills entered) ps))
    (filled_more fills entered f p)
    ∙ ap (λ (ss : List OrderStatus). status_with (fills ++ f ∷ []) entered p ∷ ss) (all_filled_more fills entered ps f)

-- these fills more
fills_more : (fills made : List Fill) (entered ps : List PastTicket)
    → statuses_after made (map (status_with fills entered) ps) ≡ map (status_with (fills ++ made) entered) ps
fills_more fills [] entered ps = ap (λ (fs : List Fill). map (status_with fs entered) ps) (sym (append-nil fills))
fills_more fills (f ∷ made) entered ps =
    ap (statuses_after made) (all_filled_more fills entered ps f)
    ∙ (fills_more (fills ++ f ∷ []) made entered ps
    ∙ ap (λ (fs : List Fill). map (status_with fs entered) ps) (append_assoc fills (f ∷ []) made))

-- ---- one ticket more

-- the ticket replaces the order of that session and id
abbrev replaces : PastTicket → ℕ → List ℕ → Bool
replaces q session id = q.session == session && names id q.original && not (is_refused q.outcome)

with_replaced : (fills : List Fill) (entered : List PastTicket) (q p : PastTicket) (b : Bool)
    → replaces q p.session p.ticket.id ≡ b →
    status_with fills (entered ++ q ∷ []) p ≡ record (status_with fills entered p) {
      status = status_at (is_refused p.outcome) (is_filled p.session p.ticket.id fills)
          (is_replaced p.session p.ticket.id entered || b);
    }
with_replaced fills entered q p b e =
    ap (λ (c : Bool). record (status_with fills entered p)
    { status = status_at (is_refused p.outcome) (is_filled p.session p.ticket.id fills) c })
    (any_more (λ (x : PastTicket). replaces x p.session p.ticket.id) entered q
    ∙ ap (λ (c : Bool). is_replaced p.session p.ticket.id entered || c) e)

-- a ticket that replaces none
none_replaced : (fills : List Fill) (entered : List PastTicket) (q p : PastTicket)
    → replaces q p.session p.ticket.id ≡ false → status_with fills (entered ++ q ∷ []) p ≡ status_with fills entered p
none_replaced fills entered q p e =
    with_replaced fills entered q p false e
    ∙ ap (λ (c : Bool). record (status_with fills entered p)
    { status = status_at (is_refused p.outcome) (is_filled p.session p.ticket.id fills) c })
    (or-false (is_replaced p.session p.ticket.id entered))

one_replaced : (fills : List Fill) (entered : List PastTicket) (q p : PastTicket) (original : List ℕ)
    → q.original ≡ Some original → is_refused q.outcome ≡ false →
    status_after_replace q.session original (status_with fills entered p) ≡ status_with fills (entered ++ q ∷ []) p
one_replaced fills entered q p original e a =
    let s = status_with fills entered p in
    let test = replaces q p.session p.ticket.id in
    let is : has_id q.session original s ≡ test =
    ap (λ (b : Bool). b && bytes_eq p.ticket.id original) (number_turned p.session q.session)
    ∙ (ap (λ (b : Bool). q.session == p.session && b) (bytes_turned p.ticket.id original)
    ∙ (and_not (q.session == p.session) (bytes_eq original p.ticket.id)
    ∙ (ap (λ (b : Bool). q.session == p.session && bytes_eq original p.ticket.id && not b) (sym a)
    ∙ ap (λ (o : Option (List ℕ)). q.session == p.session && names p.ticket.id o && not (is_refused q.outcome))
    (sym e)))) in
    put_status (has_id q.session original s && s.status == 4) s 5
    ∙ (ap (λ (k : ℕ). record s { status = k })
    (ap (λ (b : Bool). cond (b && s.status == 4) 5 s.status) is
    ∙ mark_replaced_at (is_refused p.outcome) (is_filled p.session p.ticket.id fills)
    (is_replaced p.session p.ticket.id entered) test)
    ∙ sym (with_replaced fills entered q p test refl))
  where
    and_not : (a b : Bool) → (a && b) ≡ ((a && b) && not false)
    and_not true true = refl
    and_not true false = refl
    and_not false b = refl

all_same : (f g : PastTicket → OrderStatus) (ps : List PastTicket) → ((p : PastTicket) → f p ≡ g p)
    → map f ps ≡ map g ps
all_same f g [] h = refl
all_same f g (p ∷ ps) h = ap (λ (s : OrderStatus). s ∷ map f ps) (h p)
    ∙ ap (λ (ss : List OrderStatus). g p ∷ ss) (all_same f g ps h)

map_twice : (f : PastTicket → OrderStatus) (g : OrderStatus → OrderStatus) (ps : List PastTicket)
    → map g (map f ps) ≡ map (λ (p : PastTicket). g (f p)) ps
map_twice f g [] = refl
map_twice f g (p ∷ ps) = ap (λ (ss : List OrderStatus). g (f p) ∷ ss) (map_twice f g ps)

no_name : (a b : Bool) → ((a && false) && b) ≡ false
no_name true b = refl
no_name false b = refl

not_taken : (a b c : Bool) → c ≡ true → ((a && b) && not c) ≡ false
not_taken true true c e = ap not e
not_taken true false c e = refl
not_taken false b c e = refl

-- what a ticket more makes of the statuses
ticket_more : (fills : List Fill) (entered ps : List PastTicket) (q : PastTicket) (original : Option (List ℕ))
    (refused : Bool) → q.original ≡ original → is_refused q.outcome ≡ refused →
    statuses_after_replace q.session q.outcome original (map (status_with fills entered) ps) ≡ map
    (status_with fills (entered ++ q ∷ [])) ps
ticket_more fills entered ps q None refused e a = all_same _ _ ps (λ p.
    sym (none_replaced fills entered q p
    (ap (λ (o : Option (List ℕ)). q.session == p.session && names p.ticket.id o && not (is_refused q.outcome)) e
    ∙ no_name (q.session == p.session) (not (is_refused q.outcome)))))
ticket_more fills entered ps q (Some original) true e a =
    ap (λ (b : Bool). cond b (map (status_with fills entered) ps)
    (map (status_after_replace q.session original) (map (status_with fills entered) ps))) a
    ∙ all_same _ _ ps (λ p. sym (none_replaced fills entered q p
    (not_taken (q.session == p.session) (names p.ticket.id q.original) (is_refused q.outcome) a)))
ticket_more fills entered ps q (Some original) false e a =
    ap (λ (b : Bool). cond b (map (status_with fills entered) ps)
    (map (status_after_replace q.session original) (map (status_with fills entered) ps))) a
    ∙ (map_twice (status_with fills entered) (status_after_replace q.session original) ps
    ∙ all_same _ _ ps (λ p. one_replaced fills entered q p original e a))

-- ---- the status of a ticket that is new

-- no earlier fill, and no earlier ticket, is of that session and id
pub record IsUnused (past : JournalState) (session : ℕ) (id : List ℕ) : Type 0 where
  pub filled : is_filled session id past.fills ≡ false
  pub replaced : is_replaced session id past.entered ≡ false

first_is : (past : JournalState) (q : PastTicket) (refused : Bool) → is_refused q.outcome ≡ refused
    → (refused ≡ false → IsUnused past q.session q.ticket.id) →
    status_with past.fills past.entered q ∷ [] ≡ first_status q.place q.session q.outcome (Some q.ticket)
first_is past q refused e h = ap (λ (k : ℕ). record
    { session = q.session; id = q.ticket.id; place = place_left q.place q.outcome; status = k } ∷ [])
    (by_test refused e h)
  where
    by_test : (b : Bool) → is_refused q.outcome ≡ b → (b ≡ false → IsUnused past q.session q.ticket.id) →
        ◌≡◌ {A = ℕ} (status_at (is_refused q.outcome) (is_filled q.session q.ticket.id past.fills)
        (is_replaced q.session q.ticket.id past.entered)) (cond (is_refused q.outcome) 8 4)
    by_test true f k = ap (λ (b : Bool). cond b 8 (cond (is_filled q.session q.ticket.id past.fills) 2
        (cond (is_replaced q.session q.ticket.id past.entered) 5 4))) f ∙ sym (ap (λ (b : Bool). cond b 8 4) f)
    by_test false f k =
        let u = k refl in
        ap (λ (b : Bool). status_at b (is_filled q.session q.ticket.id past.fills)
        (is_replaced q.session q.ticket.id past.entered)) f
        ∙ (ap (λ (b : Bool). status_at false b (is_replaced q.session q.ticket.id past.entered)) u.filled
        ∙ (ap (λ (b : Bool). status_at false false b) u.replaced ∙ sym (ap (λ (b : Bool). cond b 8 4) f)))

-- ---- an entry

tickets_after : (past : JournalState) (place session : ℕ) (outcome : Outcome) (made : List Fill)
    (original : Option (List ℕ)) (asked : Option Ticket) →
    (asked ≡ None → original ≡ None) →
    ((t : Ticket) → asked ≡ Some t → is_refused outcome ≡ false → IsUnused past session t.id) →
    map (status_with (past.fills ++ made) (past.entered ++ past_tickets place session outcome original asked))
    (past.entered ++ past_tickets place session outcome original asked)
    ≡ statuses_after made (statuses_after_replace session outcome original
    (map (status_with past.fills past.entered) past.entered ++ first_status place session outcome asked))
tickets_after past place session outcome made original None n u =
    ap (λ (ps : List PastTicket). map (status_with (past.fills ++ made) ps) ps) (append-nil past.entered)
    ∙ (sym (fills_more past.fills made past.entered past.entered)
    ∙ (ap (statuses_after made) (sym (append-nil (map (status_with past.fills past.entered) past.entered)))
    ∙ ap (λ (o : Option (List ℕ)). statuses_after made
    (statuses_after_replace session outcome o (map (status_with past.fills past.entered) past.entered ++ [])))
    (sym (n refl))))
tickets_after past place session outcome made original (Some t) n u =
    let q : PastTicket = record { place = place; session = session; original = original; ticket = t; outcome = outcome }
    in
    let ps = past.entered ++ q ∷ [] in
    sym (fills_more past.fills made ps ps)
    ∙ ap (statuses_after made)
    (sym (ticket_more past.fills past.entered ps q original (is_refused outcome) refl refl)
    ∙ ap (statuses_after_replace session outcome original)
    (map-append (status_with past.fills past.entered) past.entered (q ∷ [])
    ∙ ap (λ (ss : List OrderStatus). map (status_with past.fills past.entered) past.entered ++ ss)
    (first_is past q (is_refused outcome) refl (λ e. u t refl e))))

-- what is kept of an entry, by what its event asks for
pub asked_is : (place session : ℕ) (outcome : Outcome) (event : Event)
    → asked_by place session outcome event ≡ past_tickets place session outcome (original_of event) (ticket_of event)
asked_is place session outcome (New t) = refl
asked_is place session outcome (Replace original t) = refl
asked_is place session outcome (Cancel id original) = refl
asked_is place session outcome (Logon client host beat) = refl
asked_is place session outcome (TestReply text) = refl
asked_is place session outcome (Gap first) = refl
asked_is place session outcome (Resend first until) = refl
asked_is place session outcome (Reject number reason) = refl
asked_is place session outcome (Close reason) = refl

-- an event that asks for nothing replaces nothing
no_original : (event : Event) → ticket_of event ≡ None → original_of event ≡ None
no_original (New t) h = cc
no_original (Replace original t) h = cc
no_original (Cancel id original) h = refl
no_original (Logon client host beat) h = refl
no_original (TestReply text) h = refl
no_original (Gap first) h = refl
no_original (Resend first until) h = refl
no_original (Reject number reason) h = refl
no_original (Close reason) h = refl

pub statuses_more : (past : JournalState) (place : ℕ) (e : Entry) (m : EntryMeaning)
    → ((t : Ticket) → ticket_of e.event ≡ Some t → is_refused m.outcome ≡ false → IsUnused past e.session t.id) →
    statuses_of (with_meaning past place e m) ≡ statuses_after m.fills
    (statuses_after_replace e.session m.outcome (original_of e.event)
    (statuses_of past ++ first_status place e.session m.outcome (ticket_of e.event)))
statuses_more past place e m u =
    ap (λ (ps : List PastTicket). map (status_with (past.fills ++ m.fills) (past.entered ++ ps)) (past.entered ++ ps))
    (asked_is place e.session m.outcome e.event)
    ∙ tickets_after past place e.session m.outcome m.fills (original_of e.event) (ticket_of e.event)
    (no_original e.event) u

-- ---- which ids are unused

has_name : (past : JournalState) (session : ℕ) (id : List ℕ) (p : PastTicket) → p.session ≡ session → p.ticket.id ≡ id
    → has_id session id (status_of past p) ≡ true
has_name past session id p e f =
    ap (λ (b : Bool). b && bytes_eq p.ticket.id id) (let k : (p.session == session) ≡ true =
    grind (arith, nat_tests, e) in k) ∙ (bytes_eq-Decides p.ticket.id id).1 f

pub not_named_at : (past : JournalState) (session : ℕ) (id : List ℕ) (ps : List PastTicket) (q : PastTicket)
    → find (has_id session id) (map (status_of past) ps) ≡ None → Contains ps q → q.session ≡ session → q.ticket.id ≡ id
    → ⊥
not_named_at past session id [] q none c e f = not_in_nil q c
not_named_at past session id (p ∷ ps) q none c e f =
    by_test (has_id session id (status_of past p)) refl (λ later. not_named_at past session id ps q later)
  where
    by_test : (b : Bool) → has_id session id (status_of past p) ≡ b
        → (find (has_id session id) (map (status_of past) ps) ≡ None → Contains ps q → q.session ≡ session
        → q.ticket.id ≡ id → ⊥) → ⊥
    by_test true g on = let some = sym (ap (λ (b : Bool). cond b (Some (status_of past p))
        (find (has_id session id) (map (status_of past) ps))) g) ∙ none in cc
    by_test false g on = elim (in_cons_cases p ps q c) [
      | inl same ↦ let has = has_name past session id p (ap (λ (x : PastTicket). x.session) same ∙ e)
          (ap (λ (x : PastTicket). x.ticket.id) same ∙ f) in cc
      | inr later ↦ on (sym (ap (λ (b : Bool). cond b (Some (status_of past p))
          (find (has_id session id) (map (status_of past) ps))) g) ∙ none) later e f
    ]

pub not_named : (past : JournalState) (session other : ℕ) (id name : List ℕ)
    → find (has_id session id) (statuses_of past) ≡ None → IsNamed past.entered other name → other ≡ session → name ≡ id
    → ⊥
not_named past session other id name none n e f = not_named_at past session id past.entered n.new none n.entered
    (n.session_is ∙ e) (n.id_is ∙ f)

pub unused : (past : JournalState) (session : ℕ) (id : List ℕ) → find (has_id session id) (statuses_of past) ≡ None
    → ((f : Fill) → Contains past.fills f → IsNamed past.entered f.session f.id) →
    ((p : PastTicket) → Contains past.entered p → IsOriginalNamed past.entered p) → IsUnused past session id
unused past session id none named originals = record {
  filled = none_is (λ (f : Fill). f.session == session && bytes_eq f.id id && f.leaves == 0) past.fills
      (λ f c e.
      let k = and_parts (f.session == session && bytes_eq f.id id) (f.leaves == 0) e in
      let i = and_parts (f.session == session) (bytes_eq f.id id) k.0 in
      not_named past session f.session id f.id none (named f c) (same_number f.session session i.0)
      ((bytes_eq-Decides f.id id).0 i.1));
  replaced = none_is (λ (p : PastTicket). replaces p session id) past.entered
      (λ p c e.
      let k = and_parts (p.session == session && names id p.original) (not (is_refused p.outcome)) e in
      let i = and_parts (p.session == session) (names id p.original) k.0 in
      not_original p c i.0 p.original refl i.1 (is_refused p.outcome) refl k.1);
}
  where
    not_original : (p : PastTicket) → Contains past.entered p → (p.session == session) ≡ true → (o : Option (List ℕ))
        → p.original ≡ o → names id p.original ≡ true → (b : Bool) → is_refused p.outcome ≡ b
        → not (is_refused p.outcome) ≡ true → ⊥
    not_original p c s None e n b f a = let none_named = sym (ap (names id) e) ∙ n in cc
    not_original p c s (Some original) e n true f a = let refused = sym (ap not f) ∙ a in cc
    not_original p c s (Some original) e n false f a =
        not_named past session p.session id original none (originals p c original e f) (same_number p.session session s)
        ((bytes_eq-Decides original id).0 (sym (ap (names id) e) ∙ n))
