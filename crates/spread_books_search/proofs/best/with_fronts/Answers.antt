use Rattle.std.proofs.Common.{◌≡◌, true, subst, sym, ap, ◌∙◌, Option}
use Rattle.spread_rules.specs.declared.candidate.Candidate.{Candidate}
use Rattle.spread_rules.specs.declared.candidate.Counterparty.TheVariants.{Implied}
use Rattle.spread_rules.specs.code.Cases.{better_of}
use Rattle.spread_rules.specs.Candidates.{IsEligible, is_before}
use Rattle.spread_rules.specs.code.Candidates.{candidate_of, takes_part}
use Rattle.spread_rules.proofs.ranks.PlainIsLeast.{ranks}
use Rattle.spread_rules.proofs.ranks.PairsSwitched.{candidate_on}
use Rattle.spread_books_plain.specs.Queues.{IsFront}
use Rattle.spread_books_search.specs.code.Best.{IsFair, Beats}
use Rattle.spread_books_search.proofs.fronts.BeatAnyPair.{fronts_beat, candidate_fair, stays_beaten, beaten_by, better_has}
use Rattle.spread_books_search.proofs.best.with_fronts.Goals as goal

pub returns-in_default : goal.returns-in_default
returns-in_default g c =
    let front = subst (IsFront (g.B.Book.orders c.args.book.now) c.args.first.instrument c.args.first.side)
    c.in_default.is c.front.ensures in
    λ on part fair. record {
      fair = fair;
      small = c.requires.best;
      keeps = λ q h. h;
      covers = λ a b price r s e. absurd (front a r);
    }

pub returns-in_default-front : goal.returns-in_default-front
returns-in_default-front g c =
    let front = subst (IsFront (g.B.Book.orders c.args.book.now) c.args.second.instrument c.args.second.side)
    c.in_default-front.is c.front-in-Some.ensures in
    λ on part fair. record {
      fair = fair;
      small = c.requires.best;
      keeps = λ q h. h;
      covers = λ a b price r s e. absurd (front b s);
    }

pub returns-in-Some-front : goal.returns-in-Some-front
returns-in-Some-front g c =
    let xs = g.B.Book.orders c.args.book.now in
    let n = c.args.new.now in
    let p = Implied c.in-Some.a c.in-Some-front.b in
    let first = subst (IsFront xs c.args.first.instrument c.args.first.side) c.in-Some.is c.front.ensures in
    let second = subst (IsFront xs c.args.second.instrument c.args.second.side) c.in-Some-front.is
    c.front-in-Some.ensures in
    λ on part old.
    let at : takes_part on n.instrument c.in-Some.a.instrument ≡ true =
    ap (takes_part on n.instrument) first.0.instrument_is ∙ part in
    let is : c.offer_pair.new.best ≡ better_of n c.args.best.now (candidate_of on n p) = c.offer_pair.ensures.value
    ∙ ap (better_of n c.args.best.now) (sym (candidate_on on n c.in-Some.a c.in-Some-front.b at)) in
    record {
      fair = subst (IsFair on n xs) (sym is) (better_has on (is_before n) (ranks on n) (IsEligible on n xs)
          c.args.best.now (candidate_of on n p) old (candidate_fair on n xs p (first.0.stands, second.0.stands)));
      small = c.offer_pair.ensures.leg_price;
      keeps = λ q h. subst (λ (r : Option Candidate). Beats n r q) (sym is)
          (stays_beaten on (is_before n) (ranks on n) c.args.best.now (candidate_of on n p) q h);
      covers = λ a b price r s e. subst (λ (o : Option Candidate). Beats n o
          (record { price = price; counterparty = Implied a b })) (sym is)
          (beaten_by on (is_before n) (ranks on n) c.args.best.now (candidate_of on n p)
          (record { price = price; counterparty = Implied a b })
          (fronts_beat on n xs c.args.first.instrument c.args.first.side c.args.second.instrument c.args.second.side
          c.in-Some.a c.in-Some-front.b first second a b price r s e));
    }
