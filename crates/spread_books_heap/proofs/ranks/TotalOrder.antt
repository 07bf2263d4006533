-- the order of ranks: total, and no two ranks are alike
use Rattle.std.proofs.Common.{◌≡◌, ℕ, ℤ, pos, neg_ℤ, ◌-ℤ◌, ◌<ℤ◌, false, refl, ap, arith}
use Rattle.std.specs.Cmp.{IsTotalOrder}
use Rattle.std.specs.Ordering.{nat_cmp, int_cmp, ordering_then, ordering_reverse, is_lt, MatchOrdering}
use Rattle.std.specs.declared.cmp.Ordering.{Ordering}
use Rattle.std.specs.declared.cmp.Ordering.TheVariants.{Less, Equal, Greater}
use Rattle.std.proofs.lemmas.Cmp.{nat_cmp_total, int_cmp_total, on_total, then_total, int_ranked}
use Rattle.std.proofs.lemmas.Int.{ints}
use Rattle.std.proofs.lemmas.Map.Lookups.{exact_unsigned, exact_signed}
use Rattle.spread_rules.specs.declared.order.Side.{Side}
use Rattle.spread_rules.specs.declared.order.Side.TheVariants.{Buy, Sell}
use Rattle.spread_rules_rulebook.specs.declared.instrument.Instrument.{Instrument}
use Rattle.spread_rules_rulebook.specs.declared.instrument.Instrument.TheVariants.{Outright, Spread}
use Rattle.spread_rules.specs.declared.order.Order.{Order}
use Rattle.spread_rules.specs.Candidates.{cost}
use Rattle.spread_books_ids.proofs.Keys.{both_equal}
use Rattle.spread_books_queues.specs.declared.queue_rank.QueueRank.{QueueRank}
use Rattle.spread_books_plain.specs.Queues.{queue_cmp}
use Rattle.spread_rules.specs.Legs.{other_side}
use Rattle.spread_books_queues.specs.QueueRanks.{queue_number, queue_cost, rank_of, rank_cmp, HasMonths}

pub rank_total : IsTotalOrder rank_cmp
rank_total = then_total (on_total (λ (r : QueueRank). r.cost) int_cmp_total)
    (on_total (λ (r : QueueRank). r.place) nat_cmp_total)

abbrev rank_with : ℤ → ℕ → QueueRank
rank_with cost place = record { cost = cost; place = place }

rank_exact : (x y : QueueRank) → rank_cmp x y ≡ Equal → x ≡ y
rank_exact x y h =
    let a = both_equal (int_cmp x.cost y.cost) (nat_cmp x.place y.place) h in
    let cost = exact_signed x.cost y.cost a.0 in
    let place = exact_unsigned x.place y.place a.1 in
    let same : rank_with x.cost x.place ≡ rank_with y.cost y.place = cc in
    same

neither : (a b : Ordering) → a ≡ ordering_reverse b → is_lt a ≡ false → is_lt b ≡ false → a ≡ Equal
neither Less b e h k = cc
neither Equal b e h k = refl
neither Greater Less e h k = cc
neither Greater Equal e h k = cc
neither Greater Greater e h k = cc

-- two ranks of which neither is less are one
pub one_rank : (x y : QueueRank) → is_lt (rank_cmp x y) ≡ false → is_lt (rank_cmp y x) ≡ false → x ≡ y
one_rank x y h k = rank_exact x y (neither (rank_cmp x y) (rank_cmp y x) (rank_total.antisymm x y) h k)

-- ---- queues

-- instrument and side come back from their number
pub queue_is : (a b : Instrument) (s t : Side) → HasMonths a → HasMonths b → queue_number a s ≡ queue_number b t
    → (a ≡ b) × (s ≡ t)
queue_is (Outright m) (Outright n) Buy Buy x y e = let k : m ≡ n = omega arith in (ap Outright k, refl)
queue_is (Outright m) (Outright n) Sell Sell x y e = let k : m ≡ n = omega arith in (ap Outright k, refl)
queue_is (Outright m) (Outright n) Buy Sell x y e = absurd (omega arith)
queue_is (Outright m) (Outright n) Sell Buy x y e = absurd (omega arith)
queue_is (Outright m) (Spread k l) Buy Buy x y e = absurd (omega arith)
queue_is (Outright m) (Spread k l) Sell Sell x y e = absurd (omega arith)
queue_is (Outright m) (Spread k l) Buy Sell x y e = absurd (omega arith)
queue_is (Outright m) (Spread k l) Sell Buy x y e = absurd (omega arith)
queue_is (Spread i j) (Outright n) Buy Buy x y e = absurd (omega arith)
queue_is (Spread i j) (Outright n) Sell Sell x y e = absurd (omega arith)
queue_is (Spread i j) (Outright n) Buy Sell x y e = absurd (omega arith)
queue_is (Spread i j) (Outright n) Sell Buy x y e = absurd (omega arith)
queue_is (Spread i j) (Spread k l) Buy Buy (x, u) (y, v) e = let p : i ≡ k = omega arith in let q : j ≡ l =
    omega arith in (cc, refl)
queue_is (Spread i j) (Spread k l) Sell Sell (x, u) (y, v) e = let p : i ≡ k = omega arith in let q : j ≡ l =
    omega arith in (cc, refl)
queue_is (Spread i j) (Spread k l) Buy Sell (x, u) (y, v) e = absurd (omega arith)
queue_is (Spread i j) (Spread k l) Sell Buy (x, u) (y, v) e = absurd (omega arith)

one_answer : (a b : ℤ) (r t : Ordering) → MatchOrdering r ((neg_ℤ (pos 1) -ℤ a) <ℤ (neg_ℤ (pos 1) -ℤ b))
    ((neg_ℤ (pos 1) -ℤ a) ≡ (neg_ℤ (pos 1) -ℤ b)) ((neg_ℤ (pos 1) -ℤ b) <ℤ (neg_ℤ (pos 1) -ℤ a))
    → MatchOrdering t (neg_ℤ a <ℤ neg_ℤ b) (neg_ℤ a ≡ neg_ℤ b) (neg_ℤ b <ℤ neg_ℤ a) → r ≡ t
one_answer a b Less Less p q = refl
one_answer a b Less Equal p q = absurd (omega (arith, ints))
one_answer a b Less Greater p q = absurd (omega (arith, ints))
one_answer a b Equal Less p q = absurd (omega (arith, ints))
one_answer a b Equal Equal p q = refl
one_answer a b Equal Greater p q = absurd (omega (arith, ints))
one_answer a b Greater Less p q = absurd (omega (arith, ints))
one_answer a b Greater Equal p q = absurd (omega (arith, ints))
one_answer a b Greater Greater p q = refl

-- the cost in the key orders as the price does
same_order : (side : Side) (a b : ℤ) → int_cmp (queue_cost side a) (queue_cost side b) ≡ int_cmp
    (cost (other_side side) a) (cost (other_side side) b)
same_order Sell a b = refl
same_order Buy a b =
    let x = neg_ℤ (pos 1) -ℤ a in
    let y = neg_ℤ (pos 1) -ℤ b in
    one_answer a b (int_cmp x y) (int_cmp (neg_ℤ a) (neg_ℤ b)) (int_ranked x y (int_cmp x y) refl)
    (int_ranked (neg_ℤ a) (neg_ℤ b) (int_cmp (neg_ℤ a) (neg_ℤ b)) refl)

-- of one queue the ranks follow one another as the orders do
pub same_queue_cmp : (side : Side) (a b : Order) → a.side ≡ side → b.side ≡ side
    → rank_cmp (rank_of a) (rank_of b) ≡ queue_cmp side a b
same_queue_cmp side a b q s = rw (q, s) (ap (λ (t : Ordering). ordering_then t (nat_cmp a.place b.place))
    (same_order side a.price b.price))
