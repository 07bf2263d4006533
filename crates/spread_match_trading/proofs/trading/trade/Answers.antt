use Rattle.spread_rules_rulebook.specs.Rulebook.{implied, month_count, references_of}
use Rattle.std.proofs.Common.{◌∙◌, ◌-◌, ◌<◌, ◌++◌, List, [], refl, sym, subst, ap, arith, append-nil, append_assoc, length}
use Rattle.spread_rules.specs.declared.order.Order.{Order}
use Rattle.spread_rules.specs.declared.fill.Fill.{Fill}
use Rattle.spread_rules.specs.Candidates.{least_left, IsBest}
use Rattle.spread_rules.specs.Clearing.{fills_of}
use Rattle.spread_rules.proofs.clearings.TurnsEnd.{turn_shorter}
use Rattle.spread_match_trading.specs.Tradable.{IsTradable}
use Rattle.spread_match_trading.specs.code.Turns.{IsAfter}
use Rattle.spread_match_trading.proofs.turns.NotAgainstItself.{are_apart}
use Rattle.spread_match_trading.proofs.turns.StaysTradable.{still_tradable}
use Rattle.spread_match_trading.proofs.turns.OneTurn.{after_turn, least_some, done_spent, done_none, room_kept, room_first, room_once, others_some, length_push}
use Rattle.spread_match_trading.proofs.trading.trade.Goals as goal

pub loop-left-init : goal.loop-left-init
loop-left-init g c = record {
  after = (
    [],
    sym (append-nil c.args.fills.now.items),
    record { count = 0; left_is = refl; orders_is = c.requires.1.1.0; fills_is = refl },
  );
  tradable = c.requires.1.1.1.0;
  rules = refl;
  room = room_first _ _ _ _ _ c.requires.1.1.1.1 (ap (λ (xs : List Order). length xs) c.requires.1.1.0
      ∙ length_push g.rest c.args.new);
}

pub turn_once-left-requires-clause-apart : goal.turn_once-left-requires-clause-apart
turn_once-left-requires-clause-apart g c =
    let book = g.B.Book.orders c.loop-left.book in
    let least = subst (IsBest (implied c.args.rules.now) c.loop-left.left book) c.in-Some.is
    c.best_candidate.ensures.best in
    are_apart (implied c.args.rules.now) c.loop-left.left book c.in-Some.candidate.counterparty
    c.in-Some.candidate.price c.loop-left.invariant.tradable.places least.eligible.stands least.eligible.meets

pub turn_once-left-requires-clause-room : goal.turn_once-left-requires-clause-room
turn_once-left-requires-clause-room g c =
    let book = g.B.Book.orders c.loop-left.book in
    let inv = c.loop-left.invariant in
    let least = subst (IsBest (implied c.args.rules.now) c.loop-left.left book) c.in-Some.is
    c.best_candidate.ensures.best in
    room_once _ _ c.loop-left.left.leaves (length book) inv.room c.loop-left-test.true
    (others_some (implied c.args.rules.now) (references_of c.args.rules.now) c.args.new g.rest c.loop-left.left book
    inv.after.0 c.in-Some.candidate inv.after.2 least)

pub loop-left-preserved : goal.loop-left-preserved
loop-left-preserved g c =
    let book = g.B.Book.orders c.loop-left.book in
    let left = c.loop-left.left in
    let candidate = c.in-Some.candidate in
    let inv = c.loop-left.invariant in
    let least = subst (IsBest (implied c.args.rules.now) left book) c.in-Some.is c.best_candidate.ensures.best in
    let apart = are_apart (implied c.args.rules.now) left book candidate.counterparty candidate.price
    inv.tradable.places least.eligible.stands least.eligible.meets in
    let more = after_turn (implied c.args.rules.now) (references_of c.args.rules.now) (month_count c.args.rules.now)
    c.args.new g.rest left book inv.after.0 candidate inv.after.2 inv.tradable c.loop-left-test.true least in
    let some : 0 < least_left left candidate.counterparty =
    least_some left book candidate.counterparty least.eligible.stands inv.tradable.left c.loop-left-test.true in
    let by = ap (λ (o : Order). o.leaves) c.turn_once-left.ensures.left in
    record {
      after = (
        inv.after.0 ++ fills_of (references_of c.args.rules.now) left candidate,
        c.turn_once-left.ensures.items ∙ (ap (λ (fs : List Fill). fs
            ++ fills_of (references_of c.args.rules.now) left candidate) inv.after.1
            ∙ append_assoc c.args.fills.now.items inv.after.0 (fills_of (references_of c.args.rules.now) left
            candidate)),
        subst (λ (n : Order). IsAfter (implied c.args.rules.now) (references_of c.args.rules.now) c.args.new g.rest n
            (g.B.Book.orders c.turn_once-left.new.book) (inv.after.0
            ++ fills_of (references_of c.args.rules.now) left candidate)) (sym c.turn_once-left.ensures.left)
            (subst (λ (xs : List Order). IsAfter (implied c.args.rules.now) (references_of c.args.rules.now) c.args.new
            g.rest (record left { leaves = left.leaves - least_left left candidate.counterparty }) xs
            (inv.after.0 ++ fills_of (references_of c.args.rules.now) left candidate))
            (sym c.turn_once-left.ensures.orders) more),
      );
      tradable = subst (IsTradable (month_count c.args.rules.now)) (sym c.turn_once-left.ensures.orders)
          (still_tradable (month_count c.args.rules.now) left book candidate.counterparty inv.tradable
          least.eligible.stands apart);
      rules = c.turn_once-left.ensures.rules ∙ inv.rules;
      room = room_kept _ _ _ _ _ _ (least_left left candidate.counterparty) (length book) _ inv.room
          c.turn_once-left.ensures.len c.turn_once-left.ensures.room some c.loop-left-test.true
          (others_some (implied c.args.rules.now) (references_of c.args.rules.now) c.args.new g.rest left book
          inv.after.0 candidate inv.after.2 least) by
          (λ lt. subst (λ (xs : List Order). length xs < length book) (sym c.turn_once-left.ensures.orders)
          (turn_shorter (implied c.args.rules.now) left book candidate.counterparty least.eligible.stands lt));
    }

pub returns-after-loop-left-clause-left : goal.returns-after-loop-left-clause-left
returns-after-loop-left-clause-left g c =
    let inv = c.loop-left.invariant in
    (done_spent (implied c.args.rules.now) (references_of c.args.rules.now) c.args.new g.rest c.loop-left.left
    (g.B.Book.orders c.loop-left.book) inv.after.0 inv.after.2 (omega arith)).left_is

pub returns-after-loop-left-clause-orders : goal.returns-after-loop-left-clause-orders
returns-after-loop-left-clause-orders g c =
    let inv = c.loop-left.invariant in
    (done_spent (implied c.args.rules.now) (references_of c.args.rules.now) c.args.new g.rest c.loop-left.left
    (g.B.Book.orders c.loop-left.book) inv.after.0 inv.after.2 (omega arith)).orders_is

pub returns-after-loop-left-clause-fills : goal.returns-after-loop-left-clause-fills
returns-after-loop-left-clause-fills g c =
    let inv = c.loop-left.invariant in
    inv.after.1 ∙ ap (λ (fs : List Fill). c.args.fills.now.items ++ fs)
    (done_spent (implied c.args.rules.now) (references_of c.args.rules.now) c.args.new g.rest c.loop-left.left
    (g.B.Book.orders c.loop-left.book) inv.after.0 inv.after.2 (omega arith)).fills_is

pub returns-in_default-clause-left : goal.returns-in_default-clause-left
returns-in_default-clause-left g c =
    let inv = c.loop-left.invariant in
    let none = subst (IsBest (implied c.args.rules.now) c.loop-left.left (g.B.Book.orders c.loop-left.book))
    c.in_default.is c.best_candidate.ensures.best in
    (done_none (implied c.args.rules.now) (references_of c.args.rules.now) (month_count c.args.rules.now) c.args.new
    g.rest c.loop-left.left (g.B.Book.orders c.loop-left.book) inv.after.0 inv.after.2 inv.tradable
    c.loop-left-test.true none).left_is

pub returns-in_default-clause-orders : goal.returns-in_default-clause-orders
returns-in_default-clause-orders g c =
    let inv = c.loop-left.invariant in
    let none = subst (IsBest (implied c.args.rules.now) c.loop-left.left (g.B.Book.orders c.loop-left.book))
    c.in_default.is c.best_candidate.ensures.best in
    (done_none (implied c.args.rules.now) (references_of c.args.rules.now) (month_count c.args.rules.now) c.args.new
    g.rest c.loop-left.left (g.B.Book.orders c.loop-left.book) inv.after.0 inv.after.2 inv.tradable
    c.loop-left-test.true none).orders_is

pub returns-in_default-clause-fills : goal.returns-in_default-clause-fills
returns-in_default-clause-fills g c =
    let inv = c.loop-left.invariant in
    let none = subst (IsBest (implied c.args.rules.now) c.loop-left.left (g.B.Book.orders c.loop-left.book))
    c.in_default.is c.best_candidate.ensures.best in
    inv.after.1 ∙ ap (λ (fs : List Fill). c.args.fills.now.items ++ fs)
    (done_none (implied c.args.rules.now) (references_of c.args.rules.now) (month_count c.args.rules.now) c.args.new
    g.rest c.loop-left.left (g.B.Book.orders c.loop-left.book) inv.after.0 inv.after.2 inv.tradable
    c.loop-left-test.true none).fills_is
