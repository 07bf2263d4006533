use Rattle.std.proofs.Common.{sym, subst, ◌∙◌}
use Rattle.spread_rules.specs.code.Candidates.{all_on}
use Rattle.spread_books_plain.specs.Queues.{IsFrontLevel}
use Rattle.spread_books_search.proofs.fronts.Levels.{front_of_level, none_without_level, none_meets}
use Rattle.spread_books_search.proofs.best.fronts_meet.Goals as goal

pub returns-in_default : goal.returns-in_default
returns-in_default g c =
    let xs = g.B.Book.orders c.args.book.now in
    let none = subst (IsFrontLevel xs c.args.first.instrument c.args.first.side) c.in_default.is c.front_level.ensures
    in
    λ e a b price r s h. none_without_level xs c.args.first.instrument c.args.first.side none a r

pub returns-in_default-front_level : goal.returns-in_default-front_level
returns-in_default-front_level g c =
    let xs = g.B.Book.orders c.args.book.now in
    let none = subst (IsFrontLevel xs c.args.second.instrument c.args.second.side) c.in_default-front_level.is
    c.front_level-2.ensures in
    λ e a b price r s h. none_without_level xs c.args.second.instrument c.args.second.side none b s

pub returns : goal.returns
returns g c =
    let xs = g.B.Book.orders c.args.book.now in
    let f = front_of_level xs c.args.first.instrument c.args.first.side c.in-Some.a
    (subst (IsFrontLevel xs c.args.first.instrument c.args.first.side) c.in-Some.is c.front_level.ensures) in
    let s = front_of_level xs c.args.second.instrument c.args.second.side c.in-Some-front_level.b
    (subst (IsFrontLevel xs c.args.second.instrument c.args.second.side) c.in-Some-front_level.is
    c.front_level-2.ensures) in
    λ e. none_meets all_on c.args.new.now xs c.args.first.instrument c.args.first.side c.args.second.instrument
    c.args.second.side f.0 s.0 f.1.front s.1.front (sym (c.levels_meet.ensures f.0 s.0 f.1.stands s.1.stands) ∙ e)
