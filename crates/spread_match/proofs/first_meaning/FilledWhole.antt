-- where nothing was replaced, a ticket's session and id have a fill that leaves nothing just where the fills of its place make its quantity
use Rattle.std.proofs.Common.{◌≡◌, ◌≢◌, ℕ, zero, suc, ◌==◌, ◌+◌, ◌-◌, ◌<◌, ◌≤◌, ℤ, Bool, true, false, ◌&&◌, ◌||◌, List, [], ◌∷◌, ◌++◌, Contains, Option, Some, None, refl, subst, sym, ap, ◌∙◌, arith, append_assoc}
use Rattle.std.proofs.Math.Bool.{or-false}
use Rattle.std.proofs.lemmas.Bool.{and_parts}
use Rattle.std.specs.Str.{bytes_eq}
use Rattle.std.proofs.lemmas.Bool.Decides.{nat_tests}
use Rattle.std.proofs.lemmas.Slice.Eq.{bytes_eq-Decides}
use Rattle.spread_rules.specs.declared.order.Order.{Order}
use Rattle.spread_rules.specs.declared.fill.Fill.{Fill}
use Rattle.spread_rules.specs.declared.candidate.Candidate.{Candidate}
use Rattle.spread_rules.specs.Clearing.{Trading, after_fill}
use Rattle.spread_rules.specs.code.Clearing.{after_match, next_candidate, turn, turns}
use Rattle.spread_rules.specs.Meaning.{filled, is_filled, is_refused}
use Rattle.spread_rules.specs.code.Meaning.{PastTicket}
use Rattle.spread_rules.proofs.clearings.TurnsEnd.{members_rest, next_left, next_least, next_meets}
use Rattle.spread_match.proofs.entries.FillsCounted.{AreCounted, IsFill, IsRunning, each_after, filled_other, filled_own, member_filled, own_filled, running_with, turn_keeps, test_same}
use Rattle.spread_match_statuses.proofs.status_rows.MarkedRows.{same_number}
use Rattle.spread_match.proofs.entries.StatusesOfThePast.{any_more}
use Rattle.spread_match_trading.proofs.turns.NotAgainstItself.{are_apart}
use Rattle.spread_match_trading.proofs.turns.OneTurn.{least_some}
use Rattle.spread_rules.specs.Candidates.{Pairs}

-- the ticket asked for that order
pub record IsTicketOf (o : Order) (p : PastTicket) : Type 0 where
  pub session : p.session ≡ o.session
  pub id : p.ticket.id ≡ o.id
  pub quantity : p.ticket.quantity ≡ o.quantity

-- what is filled at the order's place and what is left make its quantity, and of the accepted tickets only that of its place has its session and id
pub record IsExact (ps : List PastTicket) (fs : List Fill) (o : Order) : Type 0 where
  pub counts : filled o.place fs + o.leaves ≡ o.quantity
  pub at : (p : PastTicket) → Contains ps p → is_refused p.outcome ≡ false → p.place ≡ o.place → IsTicketOf o p
  pub only : (p : PastTicket) → Contains ps p → is_refused p.outcome ≡ false → p.session ≡ o.session
      → p.ticket.id ≡ o.id → p.place ≡ o.place

-- a fill of the ticket's session and id left nothing just where the fills of its place make its quantity
abbrev pub IsMarked : List Fill → PastTicket → Type 0
IsMarked fs p = is_filled p.session p.ticket.id fs ≡ (filled p.place fs == p.ticket.quantity)

-- ---- a fill more, and the orders

exact_less : (ps : List PastTicket) (fs : List Fill) (f : Fill) (o : Order) (q : ℕ) → IsFill f o q → q ≤ o.leaves
    → IsExact ps fs o → IsExact ps (fs ++ f ∷ []) (record o { leaves = o.leaves - q })
exact_less ps fs f o q is l x =
    let e : filled o.place (fs ++ f ∷ []) ≡ filled o.place fs + f.quantity =
    subst (λ (k : ℕ). filled k (fs ++ f ∷ []) ≡ filled k fs + f.quantity) is.order (filled_own fs f) in
    let k = is.quantity in let h = x.counts in
    record {
      counts = omega arith;
      at = λ p c a m. let w = x.at p c a m in
          record { session = w.session; id = w.id; quantity = w.quantity };
      only = x.only;
    }

exact_other : (ps : List PastTicket) (fs : List Fill) (f : Fill) (o : Order) → f.order ≢ o.place → IsExact ps fs o
    → IsExact ps (fs ++ f ∷ []) o
exact_other ps fs f o n x = let e = filled_other o.place fs f n in let h = x.counts in
    record { counts = omega arith; at = x.at; only = x.only }

-- ---- a fill more, and a ticket

made_whole : (done quantity left q : ℕ) (b : Bool) → (left == 0) ≡ b → 0 < q → done + (q + left) ≡ quantity
    → b ≡ ((done + q) == quantity)
made_whole done quantity left q true e s h = let t : ((done + q) == quantity) ≡ true = grind (arith, nat_tests) in sym t
made_whole done quantity left q false e s h = let t : ((done + q) == quantity) ≡ false = grind (arith, nat_tests) in
    sym t

not_whole : (done quantity left : ℕ) → 0 < left → done + left ≡ quantity → (done == quantity) ≡ false
not_whole done quantity left s h = grind (arith, nat_tests)

-- the ticket's own fill
marked_own : (fs : List Fill) (f : Fill) (o : Order) (q : ℕ) (p : PastTicket) → IsFill f o q → q ≤ o.leaves → 0 < q
    → filled o.place fs + o.leaves ≡ o.quantity → IsTicketOf o p → p.place ≡ o.place → IsMarked fs p
    → IsMarked (fs ++ f ∷ []) p
marked_own fs f o q p is l s counts t at m =
    let quantity = is.quantity in let left = is.leaves in let whole = t.quantity in
    let before : filled p.place fs ≡ filled o.place fs = ap (λ (k : ℕ). filled k fs) at in
    let more : filled p.place (fs ++ f ∷ []) ≡ filled p.place fs + f.quantity =
    subst (λ (k : ℕ). filled k (fs ++ f ∷ []) ≡ filled k fs + f.quantity) (is.order ∙ sym at) (filled_own fs f) in
    any_more (λ (g : Fill). g.session == p.session && bytes_eq g.id p.ticket.id && g.leaves == 0) fs f
    ∙ (ap (λ (b : Bool). b || (f.session == p.session && bytes_eq f.id p.ticket.id && f.leaves == 0))
    (m ∙ not_whole (filled p.place fs) p.ticket.quantity o.leaves (omega arith) (omega arith))
    ∙ (ap (λ (b : Bool). (b && bytes_eq f.id p.ticket.id) && f.leaves == 0)
    (test_same f.session p.session (is.session ∙ sym t.session))
    ∙ (ap (λ (b : Bool). b && f.leaves == 0) ((bytes_eq-Decides f.id p.ticket.id).1 (is.id ∙ sym t.id))
    ∙ (made_whole (filled p.place fs) p.ticket.quantity f.leaves f.quantity (f.leaves == 0) refl (omega arith)
    (omega arith)
    ∙ ap (λ (k : ℕ). k == p.ticket.quantity) (sym more)))))

-- a fill of another order
marked_other : (fs : List Fill) (f : Fill) (o : Order) (q : ℕ) (p : PastTicket) → IsFill f o q → p.place ≢ o.place
    → (p.session ≡ o.session → p.ticket.id ≡ o.id → p.place ≡ o.place) → IsMarked fs p → IsMarked (fs ++ f ∷ []) p
marked_other fs f o q p is n only m = by_test (f.session == p.session && bytes_eq f.id p.ticket.id && f.leaves == 0)
    refl
  where
    by_test : (b : Bool) → (f.session == p.session && bytes_eq f.id p.ticket.id && f.leaves == 0) ≡ b
        → IsMarked (fs ++ f ∷ []) p
    by_test true e =
        let k = and_parts (f.session == p.session && bytes_eq f.id p.ticket.id) (f.leaves == 0) e in
        let i = and_parts (f.session == p.session) (bytes_eq f.id p.ticket.id) k.0 in
        absurd (n (only (sym (same_number f.session p.session i.0) ∙ is.session)
        (sym ((bytes_eq-Decides f.id p.ticket.id).0 i.1) ∙ is.id)))
    by_test false e =
        any_more (λ (g : Fill). g.session == p.session && bytes_eq g.id p.ticket.id && g.leaves == 0) fs f
        ∙ (ap (λ (b : Bool). is_filled p.session p.ticket.id fs || b) e
        ∙ (or-false (is_filled p.session p.ticket.id fs)
        ∙ (m ∙ ap (λ (k : ℕ). k == p.ticket.quantity) (sym (filled_other p.place fs f (λ j. n (sym j ∙ is.order)))))))

marked_more : (ps : List PastTicket) (fs : List Fill) (f : Fill) (o : Order) (q : ℕ) → IsFill f o q → q ≤ o.leaves
    → 0 < q → IsExact ps fs o → (p : PastTicket) → Contains ps p → is_refused p.outcome ≡ false → IsMarked fs p
    → IsMarked (fs ++ f ∷ []) p
marked_more ps fs f o q is l s x p c a m = by_test (p.place == o.place) refl
  where
    by_test : (b : Bool) → (p.place == o.place) ≡ b → IsMarked (fs ++ f ∷ []) p
    by_test true e = let at = same_number p.place o.place e in
        marked_own fs f o q p is l s x.counts (x.at p c a at) at m
    by_test false e = marked_other fs f o q p is (λ k.
        (let t = test_same p.place o.place k in let no : true ≡ false = sym t ∙ e in cc)) (x.only p c a) m

-- ---- a turn

-- of the new order, all that rest and the tickets, after some fills
pub record AreExact (ps : List PastTicket) (past : List Fill) (n : Order) (xs : List Order) (made : List Fill) : Type 0
  where
    pub own : IsExact ps (past ++ made) n
    pub each : (o : Order) → Contains xs o → IsExact ps (past ++ made) o
    pub marked : (p : PastTicket) → Contains ps p → is_refused p.outcome ≡ false → IsMarked (past ++ made) p

abbrev AreCountedExactly : List PastTicket → List Fill → Order → List Order → List Fill → Type 0
AreCountedExactly ps past n xs made = AreCounted ps past n xs made × AreExact ps past n xs made

exact_own_filled : (ps : List PastTicket) (past : List Fill) (n : Order) (xs : List Order) (made : List Fill) (f : Fill)
    (q : ℕ) → IsFill f n q → q ≤ n.leaves → 0 < q →
    AreCountedExactly ps past n xs made → AreCountedExactly ps past (record n { leaves = n.leaves - q }) xs
    (made ++ f ∷ [])
exact_own_filled ps past n xs made f q is l s (h, x) = (
  own_filled ps past n xs made f q is l s h,
  record {
    own = subst (λ (fs : List Fill). IsExact ps fs (record n { leaves = n.leaves - q }))
        (append_assoc past made (f ∷ [])) (exact_less ps (past ++ made) f n q is l x.own);
    each = λ o c. subst (λ (fs : List Fill). IsExact ps fs o) (append_assoc past made (f ∷ []))
        (exact_other ps (past ++ made) f o (λ e. let a = h.apart o c in let k = is.order in omega arith) (x.each o c));
    marked = λ p c a. subst (λ (fs : List Fill). IsMarked fs p) (append_assoc past made (f ∷ []))
        (marked_more ps (past ++ made) f n q is l s x.own p c a (x.marked p c a));
  },
)

exact_member_filled : (ps : List PastTicket) (past : List Fill) (n : Order) (xs : List Order) (made : List Fill)
    (f : Fill) (m : Order) (q : ℕ) → Contains xs m → IsFill f m q → q ≤ m.leaves → 0 < q →
    AreCountedExactly ps past n xs made → AreCountedExactly ps past n (after_fill q xs m) (made ++ f ∷ [])
exact_member_filled ps past n xs made f m q c is l s (h, x) = (
  member_filled ps past n xs made f m q c is l s h,
  record {
    own = subst (λ (fs : List Fill). IsExact ps fs n) (append_assoc past made (f ∷ []))
        (exact_other ps (past ++ made) f n (λ e. let a = h.apart m c in let k = is.order in omega arith) x.own);
    each = λ o d. subst (λ (fs : List Fill). IsExact ps fs o) (append_assoc past made (f ∷ []))
        (each_after (IsExact ps (past ++ made)) (IsExact ps ((past ++ made) ++ f ∷ [])) xs m q (m.leaves == q) c
        h.differ (exact_less ps (past ++ made) f m q is l)
        (λ w k. exact_other ps (past ++ made) f w (λ e. k (sym e ∙ is.order))) x.each o d);
    marked = λ p d a. subst (λ (fs : List Fill). IsMarked fs p) (append_assoc past made (f ∷ []))
        (marked_more ps (past ++ made) f m q is l s (x.each m c) p d a (x.marked p d a));
  },
)

-- ---- turns

exact_with : (on : Pairs) (references : List ℤ) (months : ℕ) (ps : List PastTicket) (past : List Fill) (t : Trading)
    (r : Option Candidate) → next_candidate on t ≡ r → IsRunning months ps past t
    → AreExact ps past t.new t.orders t.fills →
    AreExact ps past (after_match references t r).new (after_match references t r).orders
    (after_match references t r).fills
exact_with on references months ps past t None e h x = x
exact_with on references months ps past t (Some o) e h x =
    let stands = members_rest on t o e in
    let apart = are_apart on t.new t.orders o.counterparty o.price h.tradable.places stands (next_meets on t o e) in
    (turn_keeps (AreCountedExactly ps past) (exact_own_filled ps past) (exact_member_filled ps past) references t.new
    t.orders t.fills o.counterparty o.price stands apart
    (least_some t.new t.orders o.counterparty stands h.tradable.left (next_left on t o e))
    (next_least on t o e).eligible.within (h.counted, x)).1

pub exact_turns : (on : Pairs) (references : List ℤ) (months : ℕ) (ps : List PastTicket) (past : List Fill) (k : ℕ)
    (t : Trading) → IsRunning months ps past t → AreExact ps past t.new t.orders t.fills →
    AreExact ps past (turns on references k t).new (turns on references k t).orders (turns on references k t).fills
exact_turns on references months ps past zero t h x = x
exact_turns on references months ps past (suc k) t h x =
    exact_turns on references months ps past k (turn on references t)
    (running_with on references months ps past t (next_candidate on t) refl h)
    (exact_with on references months ps past t (next_candidate on t) refl h x)
