-- a journal without Replace means what it meant before orders could be replaced, entry by entry
use Rattle.std.proofs.Common.{◌≡◌, ℕ, ◌==◌, ◌+◌, Bool, true, false, not, ◌&&◌, cond, List, [], ◌∷◌, ◌++◌, map, Contains, All, Option, refl, sym, ap, ◌∙◌, arith}
use Rattle.std.proofs.lemmas.List.{map-append}
use Rattle.std.proofs.lemmas.List.Elements.{All-contains}
use Rattle.spread_rules.specs.declared.order.Order.{Order}
use Rattle.spread_rules.specs.declared.event.Entry.{Entry}
use Rattle.spread_rules.specs.declared.event.Event.{Event}
use Rattle.spread_rules.specs.declared.event.Event.TheVariants.{Logon, New, Cancel, Replace, TestReply, Gap, Resend, Reject, Close}
use Rattle.spread_rules.specs.declared.outcome.Outcome.{Outcome}
use Rattle.spread_rules.specs.declared.outcome.OrderStatus.{OrderStatus}
use Rattle.spread_rules.specs.code.Cases.{status_at}
use Rattle.spread_rules.specs.Meaning.{EntryMeaning, filled, is_filled, is_refused, meaning_with}
use Rattle.spread_rules.specs.code.Meaning.{JournalState, PastTicket, after_entry, is_replaced, meaning_of, meanings_from, meanings_of, names, no_entries, status_of, statuses_of, asked_by}
use Rattle.spread_rules.specs.MeaningBeforeReplaces.{FirstState, PastNew, is_replace, new_of, after_entry as first_after_entry, is_refused as was_refused, meaning_of as first_meaning_of, meaning_with as first_meaning_with, meanings_from as first_meanings_from, meanings_of as first_meanings_of, status_of as first_status_of, statuses_of as first_statuses_of, with_meaning as first_with_meaning}
use Rattle.spread_rules_rulebook.specs.Rulebook.{Rules, month_count}
use Rattle.spread_rules_rulebook.proofs.lists.Membership.{in_head, in_tail}
use Rattle.spread_match.specs.Sound.{IsSound}
use Rattle.spread_match_state.specs.Trade.{ArePriced, IsPriced}
use Rattle.spread_match.proofs.entries.PastStaysSound.{entry_kept}
use Rattle.spread_match.proofs.first_meaning.NothingReplaced.{IsFirst, entry_first, none_first}
use Rattle.spread_match.proofs.journals.AfterEveryEntry.{none_sound}
use Rattle.spread_match.proofs.entries.StatusesOfThePast.{none_is}

-- the past as it was kept before

abbrev as_new : PastTicket → PastNew
as_new p = record { place = p.place; session = p.session; ticket = p.ticket; outcome = p.outcome }

abbrev first_of : JournalState → FirstState
first_of past = record { orders = past.orders; entered = map as_new past.entered; fills = past.fills }

-- ---- the statuses are the same

no_name : (a b : Bool) → ((a && false) && b) ≡ true → ⊥
no_name true b e = cc
no_name false b e = cc

none_replaced : (past : JournalState) (session : ℕ) (id : List ℕ) → IsFirst past
    → is_replaced session id past.entered ≡ false
none_replaced past session id x = none_is (λ (p : PastTicket). p.session == session && names id p.original && not
    (is_refused p.outcome)) past.entered
    (λ p c e. no_name (p.session == session) (not (is_refused p.outcome))
    (sym (ap (λ (o : Option (List ℕ)). p.session == session && names id o && not (is_refused p.outcome))
    (x.new p c).original) ∙ e))

same_at : (was refused filled whole replaced : Bool) → was ≡ refused → (refused ≡ false → filled ≡ whole)
    → replaced ≡ false → ◌≡◌ {A = ℕ} (cond was 8 (cond whole 2 4)) (status_at refused filled replaced)
same_at was true filled whole replaced w m r = ap (λ (b : Bool). cond b 8 (cond whole 2 4)) w
same_at was false filled whole replaced w m r =
    ap (λ (b : Bool). cond b 8 (cond whole 2 4)) w ∙ (ap (λ (b : Bool). cond b 2 4) (sym (m refl))
    ∙ ap (λ (b : Bool). cond filled 2 (cond b 5 4)) (sym r))

same_status : (past : JournalState) (p : PastTicket) → IsFirst past → Contains past.entered p
    → first_status_of past.fills (as_new p) ≡ status_of past p
same_status past p x c =
    let n = x.new p c in
    ap (λ (k : ℕ). record { session = p.session; id = p.ticket.id; place = p.place; status = k })
    (same_at (was_refused p.outcome) (is_refused p.outcome) (is_filled p.session p.ticket.id past.fills)
    (filled p.place past.fills == p.ticket.quantity) (is_replaced p.session p.ticket.id past.entered)
    n.refused (x.marked p c) (none_replaced past p.session p.ticket.id x))
    ∙ ap (λ (k : ℕ). record (status_of past p) { place = k }) (sym n.place)

each_same : (past : JournalState) (ps : List PastTicket)
    → ((p : PastTicket) → Contains ps p → first_status_of past.fills (as_new p) ≡ status_of past p)
    → map (first_status_of past.fills) (map as_new ps) ≡ map (status_of past) ps
each_same past [] h = refl
each_same past (p ∷ ps) h =
    ap (λ (s : OrderStatus). s ∷ map (first_status_of past.fills) (map as_new ps)) (h p (in_head p ps))
    ∙ ap (λ (ss : List OrderStatus). status_of past p ∷ ss) (each_same past ps (λ q c. h q (in_tail p ps q c)))

same_statuses : (past : JournalState) → IsFirst past → first_statuses_of (first_of past) ≡ statuses_of past
same_statuses past x = each_same past past.entered (λ p c. same_status past p x c)

-- ---- an entry means the same

same_with : (rules : Rules) (xs : List Order) (earlier : List OrderStatus) (place session : ℕ) (event : Event)
    → is_replace event ≡ false → first_meaning_with rules xs earlier place session event ≡ meaning_with rules xs earlier
    place session event
same_with rules xs earlier place session (New t) n = refl
same_with rules xs earlier place session (Cancel id original) n = refl
same_with rules xs earlier place session (Replace original t) n = cc
same_with rules xs earlier place session (Logon client host beat) n = refl
same_with rules xs earlier place session (TestReply text) n = refl
same_with rules xs earlier place session (Gap first) n = refl
same_with rules xs earlier place session (Resend first until) n = refl
same_with rules xs earlier place session (Reject number reason) n = refl
same_with rules xs earlier place session (Close reason) n = refl

same_meaning : (rules : Rules) (past : JournalState) (place : ℕ) (e : Entry) → is_replace e.event ≡ false → IsFirst past
    → first_meaning_of rules (first_of past) place e ≡ meaning_of rules past place e
same_meaning rules past place e n x =
    ap (λ (ss : List OrderStatus). first_meaning_with rules past.orders ss place e.session e.event)
    (same_statuses past x) ∙ same_with rules past.orders (statuses_of past) place e.session e.event n

-- ---- and is kept the same

same_entered : (place session : ℕ) (outcome : Outcome) (event : Event) → is_replace event ≡ false
    → new_of place session outcome event ≡ map as_new (asked_by place session outcome event)
same_entered place session outcome (New t) n = refl
same_entered place session outcome (Cancel id original) n = refl
same_entered place session outcome (Replace original t) n = cc
same_entered place session outcome (Logon client host beat) n = refl
same_entered place session outcome (TestReply text) n = refl
same_entered place session outcome (Gap first) n = refl
same_entered place session outcome (Resend first until) n = refl
same_entered place session outcome (Reject number reason) n = refl
same_entered place session outcome (Close reason) n = refl

same_after : (rules : Rules) (past : JournalState) (place : ℕ) (e : Entry) → is_replace e.event ≡ false → IsFirst past
    → first_after_entry rules (first_of past) place e ≡ first_of (after_entry rules past place e)
same_after rules past place e n x =
    let m = meaning_of rules past place e in
    let tickets = asked_by place e.session m.outcome e.event in
    ap (first_with_meaning (first_of past) place e) (same_meaning rules past place e n x)
    ∙ ap (λ (ns : List PastNew). record { orders = m.orders; entered = ns; fills = past.fills ++ m.fills })
    (ap (λ (ns : List PastNew). map as_new past.entered ++ ns) (same_entered place e.session m.outcome e.event n)
    ∙ sym (map-append as_new past.entered tickets))

-- ---- the entries in order

same_from : (rules : Rules) (past : JournalState) (last : ℕ) (es : List Entry)
    → ((e : Entry) → Contains es e → IsPriced e.event) → ((e : Entry) → Contains es e → is_replace e.event ≡ false)
    → IsSound (month_count rules) past last → IsFirst past →
    meanings_from rules past (last + 1) es ≡ first_meanings_from rules (first_of past) (last + 1) es
same_from rules past last [] k n s x = refl
same_from rules past last (e ∷ es) k n s x =
    let here = n e (in_head e es) in
    let later : meanings_from rules (after_entry rules past (last + 1) e) ((last + 1) + 1) es ≡ first_meanings_from
    rules (first_of (after_entry rules past (last + 1) e)) ((last + 1) + 1) es =
    same_from rules (after_entry rules past (last + 1) e) (last + 1) es (λ w c. k w (in_tail e es w c))
    (λ w c. n w (in_tail e es w c))
    (entry_kept rules past last (last + 1) e (omega arith) s (k e (in_head e es))).sound
    (entry_first rules past last (last + 1) e here (omega arith) s x) in
    ap (λ (m : EntryMeaning). m ∷ meanings_from rules (after_entry rules past (last + 1) e) ((last + 1) + 1) es)
    (sym (same_meaning rules past (last + 1) e here x))
    ∙ ap (λ (ms : List EntryMeaning). first_meaning_of rules (first_of past) (last + 1) e ∷ ms)
    (later ∙ ap (λ (first : FirstState). first_meanings_from rules first ((last + 1) + 1) es)
    (sym (same_after rules past (last + 1) e here x)))

pub same_meanings : (rules : Rules) (journal : List Entry) → ArePriced journal
    → All (λ e. is_replace e.event ≡ false) journal → meanings_of rules journal ≡ first_meanings_of rules journal
same_meanings rules journal k n =
    same_from rules no_entries 0 journal (λ e c. All-contains (λ (x : Entry). IsPriced x.event) journal e k c)
    (λ e c. All-contains (λ (x : Entry). is_replace x.event ≡ false) journal e n c) (none_sound (month_count rules))
    none_first
