use Rattle.std.proofs.Common.{◌≡◌, ℤ, Some, None, ap, sym, ◌∙◌}
use Rattle.spread_rules.specs.declared.order.Order.{Order}
use Rattle.spread_rules.specs.declared.candidate.Counterparty.TheVariants.{Implied}
use Rattle.spread_rules.specs.Candidates.{price_of}
use Rattle.spread_rules.specs.code.Candidates.{all_on}
use Rattle.spread_books_search.proofs.fronts.BeatAnyPair.{fronts_meet}
use Rattle.spread_books.proofs.pair_quote.pair_quote.Goals as goal

-- the price rests on the new order's instrument and side alone
same_price : (n new f t : Order) (q : ℤ) → new.instrument ≡ n.instrument → new.side ≡ n.side
    → price_of all_on n (Implied f t) ≡ Some q → price_of all_on new (Implied f t) ≡ Some q
same_price n new f t q i s p = rw (i, s) p

pub returns-in_default-price_at : goal.returns-in_default-price_at
returns-in_default-price_at g c = λ n i s a b price ra rb e.
    let f = c.in-Some.a in
    let t = c.in-Some-front.b in
    let m = fronts_meet all_on n _ _ _ _ _ f t a b price c.in-Some.ensures.0 c.in-Some-front.ensures.0 ra rb e in
    let new = c.order_like-new.result in
    let like = c.order_like-new.ensures in
    let priced = same_price n new f t m.0 (ap (λ (o : Order). o.instrument) like ∙ sym i)
    (ap (λ (o : Order). o.side) like ∙ sym s) m.1 in
    let none : price_of all_on new (Implied f t) ≡ None = sym c.price_at.ensures.value ∙ c.in_default-price_at.is in
    let no = sym priced ∙ none in
    cc
