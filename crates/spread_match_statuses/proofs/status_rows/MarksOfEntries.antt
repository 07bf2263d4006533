-- a fill and a replace each mark the status of one order
use Rattle.std.proofs.Common.{◌≡◌, ℕ, ◌==◌, ◌<◌, Bool, true, false, not, ◌&&◌, cond, List, [], ◌∷◌, map, set, get_or, refl, ap, ◌∙◌, sym, arith}
use Rattle.std.proofs.lemmas.Option.{get_or_from_slice_get}
use Rattle.std.proofs.lemmas.Bool.Decides.{nat_tests}
use Rattle.spread_rules.specs.declared.fill.Fill.{Fill}
use Rattle.spread_rules.specs.declared.outcome.OrderStatus.{OrderStatus}
use Rattle.spread_rules.specs.Meaning.{has_id}
use Rattle.spread_match_statuses.specs.code.Statuses.{was_accepted, status_after_fill, status_after_replace, AreRefusedLater, key_of_status, IsAcceptedRow}
use Rattle.spread_books_ids.proofs.TakenBack.{set_again}
use Rattle.spread_match_statuses.proofs.status_rows.MarkedRows.{IsMarkOf, KeepsName, one_marked}

-- ---- a fill

pub fill_marks : (f : Fill) → IsMarkOf f.session f.id (status_after_fill f)
fill_marks f s h = ap (λ (b : Bool). cond (b && f.leaves == 0) (record s { status = 2 }) s) h

eight_is_open : (a c : Bool) (n : ℕ) → n ≡ 8 → ((a && not (n == 8)) && c) ≡ false
eight_is_open true c n e = ap (λ (k : ℕ). (true && not (k == 8)) && c) e
eight_is_open false c n e = refl

fill_refused : (f : Fill) (s : OrderStatus) → s.status ≡ 8 → status_after_fill f s ≡ s
fill_refused f s e = ap (λ (b : Bool). cond b (record s { status = 2 }) s)
    (eight_is_open (has_id f.session f.id s) (f.leaves == 0) s.status e)

same_session : (b : Bool) (k : ℕ) (s : OrderStatus) → (cond b (record s { status = k }) s).session ≡ s.session
same_session true k s = refl
same_session false k s = refl

same_id : (b : Bool) (k : ℕ) (s : OrderStatus) → (cond b (record s { status = k }) s).id ≡ s.id
same_id true k s = refl
same_id false k s = refl

same_place : (b : Bool) (k : ℕ) (s : OrderStatus) → (cond b (record s { status = k }) s).place ≡ s.place
same_place true k s = refl
same_place false k s = refl

same_key : (b : Bool) (k : ℕ) (s : OrderStatus) → key_of_status (cond b (record s { status = k }) s) ≡ key_of_status s
same_key true k s = refl
same_key false k s = refl

pub fill_keeps : (f : Fill) → KeepsName (status_after_fill f)
fill_keeps f = record {
  session = λ s. same_session (was_accepted f.session f.id s && f.leaves == 0) 2 s;
  id = λ s. same_id (was_accepted f.session f.id s && f.leaves == 0) 2 s;
  place = λ s. same_place (was_accepted f.session f.id s && f.leaves == 0) 2 s;
  refused = λ s e. ap (λ (t : OrderStatus). t.status) (fill_refused f s e) ∙ e;
}

pub fill_key : (f : Fill) (s : OrderStatus) → key_of_status (status_after_fill f s) ≡ key_of_status s
fill_key f s = same_key (was_accepted f.session f.id s && f.leaves == 0) 2 s

-- a fill that leaves something marks none
pub no_mark : (f : Fill) (s : OrderStatus) → (f.leaves == 0) ≡ false → status_after_fill f s ≡ s
no_mark f s e = by_test (was_accepted f.session f.id s)
  where
    by_test : (a : Bool) → cond (a && f.leaves == 0) (record s { status = 2 }) s ≡ s
    by_test true = ap (λ (b : Bool). cond b (record s { status = 2 }) s) e
    by_test false = refl

pub filled_row : (f : Fill) (s : OrderStatus) → was_accepted f.session f.id s ≡ true → f.leaves ≡ 0
    → status_after_fill f s ≡ record s { status = 2 }
filled_row f s o e =
    ap (λ (b : Bool). cond (b && f.leaves == 0) (record s { status = 2 }) s) o
    ∙ ap (λ (n : ℕ). cond (n == 0) (record s { status = 2 }) s) e

-- ---- a replace

not_both : (a : Bool) (n : ℕ) → (a && not (n == 8)) ≡ false → (a && n == 4) ≡ false
not_both false n e = refl
not_both true n e = grind (arith, nat_tests, e)

pub replace_marks : (session : ℕ) (id : List ℕ) → IsMarkOf session id (status_after_replace session id)
replace_marks session id s h = ap (λ (b : Bool). cond b (record s { status = 5 }) s)
    (not_both (has_id session id s) s.status h)

eight_is_four : (a : Bool) (n : ℕ) → n ≡ 8 → (a && n == 4) ≡ false
eight_is_four true n e = ap (λ (k : ℕ). true && k == 4) e
eight_is_four false n e = refl

pub replace_keeps : (session : ℕ) (id : List ℕ) → KeepsName (status_after_replace session id)
replace_keeps session id = record {
  session = λ s. same_session (has_id session id s && s.status == 4) 5 s;
  id = λ s. same_id (has_id session id s && s.status == 4) 5 s;
  place = λ s. same_place (has_id session id s && s.status == 4) 5 s;
  refused = λ s e. ap (λ (b : Bool). (cond b (record s { status = 5 }) s).status)
      (eight_is_four (has_id session id s) s.status e) ∙ e;
}

pub replace_key : (session : ℕ) (id : List ℕ) (s : OrderStatus)
    → key_of_status (status_after_replace session id s) ≡ key_of_status s
replace_key session id s = same_key (has_id session id s && s.status == 4) 5 s

pub replaced_row : (session : ℕ) (id : List ℕ) (s : OrderStatus) → was_accepted session id s ≡ true → s.status ≡ 4
    → status_after_replace session id s ≡ record s { status = 5 }
replaced_row session id s o e =
    ap (λ (b : Bool). cond (b && s.status == 4) (record s { status = 5 }) s)
    (has (has_id session id s) (s.status == 8) o)
    ∙ ap (λ (n : ℕ). cond (n == 4) (record s { status = 5 }) s) e
  where
    has : (a b : Bool) → (a && not b) ≡ true → a ≡ true
    has true b h = refl
    has false b h = cc

pub not_canceled : (session : ℕ) (id : List ℕ) (s : OrderStatus) → (s.status == 4) ≡ false
    → status_after_replace session id s ≡ s
not_canceled session id s e = by_test (has_id session id s)
  where
    by_test : (a : Bool) → cond (a && s.status == 4) (record s { status = 5 }) s ≡ s
    by_test true = ap (λ (b : Bool). cond b (record s { status = 5 }) s) e
    by_test false = refl

-- ---- the row that is marked

pub leaves_some : (f : Fill) (ss : List OrderStatus) → 0 < f.leaves → ss ≡ map (status_after_fill f) ss
leaves_some f [] h = refl
leaves_some f (s ∷ ss) h =
    let e : (f.leaves == 0) ≡ false = grind (arith, nat_tests) in
    ap (λ (x : OrderStatus). x ∷ ss) (sym (no_mark f s e))
    ∙ ap (λ (xs : List OrderStatus). status_after_fill f s ∷ xs) (leaves_some f ss h)

row_is : (ss : List OrderStatus) (session : ℕ) (id : List ℕ) (at : ℕ) (now : OrderStatus)
    (o : IsAcceptedRow ss session id at) → now ≡ get_or ss at now → now ≡ o.status
row_is ss session id at now o e = e ∙ get_or_from_slice_get ss at o.status now o.stands

pub set_filled : (f : Fill) (ss : List OrderStatus) (at : ℕ) (now : OrderStatus) → IsAcceptedRow ss f.session f.id at
    → AreRefusedLater ss → f.leaves ≡ 0 → now ≡ get_or ss at now →
    set ss at (record now { status = 2 }) ≡ map (status_after_fill f) ss
set_filled f ss at now o h none e =
    ap (λ (s : OrderStatus). set ss at (record s { status = 2 })) (row_is ss f.session f.id at now o e)
    ∙ (ap (set ss at) (sym (filled_row f o.status o.is none))
    ∙ one_marked f.session f.id (status_after_fill f) ss at o.status (fill_marks f) h o.stands o.is)

pub set_replaced : (session : ℕ) (id : List ℕ) (ss : List OrderStatus) (at : ℕ) (now : OrderStatus)
    → IsAcceptedRow ss session id at → AreRefusedLater ss → get_or ss at now ≡ now → now.status ≡ 4
    → (next : OrderStatus) → next ≡ get_or ss at next →
    set ss at (record next { status = 5 }) ≡ map (status_after_replace session id) ss
set_replaced session id ss at now o h e four next f =
    let same = row_is ss session id at now o (sym e) in
    ap (λ (s : OrderStatus). set ss at (record s { status = 5 })) (row_is ss session id at next o f)
    ∙ (ap (set ss at) (sym (replaced_row session id o.status o.is
    (sym (ap (λ (s : OrderStatus). s.status) same) ∙ four)))
    ∙ one_marked session id (status_after_replace session id) ss at o.status (replace_marks session id) h o.stands o.is)

-- the one that is open is not canceled, so none is marked
pub none_replaced : (session : ℕ) (id : List ℕ) (ss : List OrderStatus) (at : ℕ) (now : OrderStatus)
    → IsAcceptedRow ss session id at → AreRefusedLater ss → now ≡ get_or ss at now → (now.status ≡ 4 → ⊥) →
    ss ≡ map (status_after_replace session id) ss
none_replaced session id ss at now o h e four =
    let same = row_is ss session id at now o e in
    let other : (o.status.status == 4) ≡ false = grind
    (arith, nat_tests, (λ (k : o.status.status ≡ 4). four (ap (λ (s : OrderStatus). s.status) same ∙ k))) in
    sym (set_again ss at o.status o.stands)
    ∙ (ap (set ss at) (sym (not_canceled session id o.status other))
    ∙ one_marked session id (status_after_replace session id) ss at o.status (replace_marks session id) h o.stands
    o.is)
