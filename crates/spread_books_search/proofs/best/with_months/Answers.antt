use Rattle.std.proofs.Common.{false, subst, sym, ◌∙◌}
use Rattle.spread_rules.specs.declared.order.Side.{Side}
use Rattle.spread_rules_rulebook.specs.declared.instrument.Instrument.{Instrument}
use Rattle.spread_rules_rulebook.specs.declared.instrument.Instrument.TheVariants.{Outright}
use Rattle.spread_rules_rulebook.specs.Rulebook.{implied, month_count}
use Rattle.spread_rules.specs.Legs.{other_side}
use Rattle.spread_books_search.specs.code.Best.{CoversTwo, is_better}
use Rattle.spread_books_plain.specs.Pairs.{IsCheapest, spread_of, spread_side}
use Rattle.spread_books_search.proofs.fronts.MonthPairs.{pair_takes_part, cheapest_beats, none_beats, price_passed}
use Rattle.spread_books_search.proofs.fronts.DirectFirst.{not_better}
use Rattle.spread_books_search.proofs.best.with_months.Goals as goal

pub returns-then-is_better : goal.returns-then-is_better
returns-then-is_better g c =
    let xs = g.B.Book.orders c.args.book.now in
    let n = c.args.new.now in
    let on = implied c.args.rules.now in
    let l = c.in-Some.pair in
    let m = c.args.month in
    let q = c.spreads_with-spreads.result in
    let r = c.with_fronts.new.best in
    let and = Outright l.other_month in
    let cheapest = subst (IsCheapest on xs n.side m (month_count c.args.rules.now)) c.in-Some.is
    c.least_pair.ensures.least in
    let offers = c.with_fronts.ensures on (pair_takes_part on n m l.other_month q.instrument c.requires.new
    c.spreads_with-spreads.ensures.instrument ∙ cheapest.fronts.is_on) c.requires.fair in
    let covers : CoversTwo on n xs (spread_of m l.other_month) (spread_side n.side m l.other_month) and
    (other_side n.side) r =
    subst (λ (s : Side). CoversTwo on n xs (spread_of m l.other_month) (spread_side n.side m l.other_month) and s r)
    c.opposite.ensures
    (subst (λ (s : Side). CoversTwo on n xs (spread_of m l.other_month) s and c.opposite.result r)
    c.spreads_with-spreads.ensures.side
    (subst (λ (i : Instrument). CoversTwo on n xs i q.side and c.opposite.result r)
    c.spreads_with-spreads.ensures.instrument offers.covers)) in
    record {
      fair = offers.fair;
      small = offers.small;
      keeps = offers.keeps;
      covers = cheapest_beats on n xs m (month_count c.args.rules.now) l r c.requires.new c.requires.listed cheapest
          covers;
    }

pub returns-else-is_better : goal.returns-else-is_better
returns-else-is_better g c =
    let xs = g.B.Book.orders c.args.book.now in
    let n = c.args.new.now in
    let on = implied c.args.rules.now in
    let l = c.in-Some.pair in
    let cheapest = subst (IsCheapest on xs n.side c.args.month (month_count c.args.rules.now)) c.in-Some.is
    c.least_pair.ensures.least in
    record {
      fair = c.requires.fair;
      small = c.requires.best;
      keeps = λ q h. h;
      covers = not_better on n xs c.args.month (month_count c.args.rules.now) l c.requires.new c.requires.listed
          cheapest c.args.best.now c.requires.direct (sym (price_passed n.side (is_better n c.args.best.now) l.cost
          c.price_for.result false cheapest.small c.price_for.ensures
          (sym c.if-is_better.false ∙ c.is_better.ensures)));
    }

pub returns-in_default : goal.returns-in_default
returns-in_default g c =
    let xs = g.B.Book.orders c.args.book.now in
    let n = c.args.new.now in
    let on = implied c.args.rules.now in
    let cheapest = subst (IsCheapest on xs n.side c.args.month (month_count c.args.rules.now)) c.in_default.is
    c.least_pair.ensures.least in
    record {
      fair = c.requires.fair;
      small = c.requires.best;
      keeps = λ q h. h;
      covers = none_beats on n xs c.args.month (month_count c.args.rules.now) c.args.best.now c.requires.new
          c.requires.listed cheapest;
    }
