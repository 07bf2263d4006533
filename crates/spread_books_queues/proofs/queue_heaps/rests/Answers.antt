use Rattle.std.proofs.Common.{◌≡◌, ◌∙◌, ◌==◌, ℕ, Option, Some, None, option_map, unwrap_or, false, sym, ap, subst}
use Rattle.std.specs.List.{find}
use Rattle.std.specs.Option.{option_copied}
use Rattle.spread_rules.specs.declared.order.Order.{Order}
use Rattle.spread_books_queues.specs.code.Heaps.{is_of_rank}
use Rattle.spread_books_queues.proofs.queue_heaps.rests.Goals as goal

pub returns-in-None-clause-value : goal.returns-in-None-clause-value
returns-in-None-clause-value g c =
    let none = subst (λ (p : ℕ). find (λ (o : Order). o.place == p) c.args.rows.now ≡ None) c.place.ensures
    (sym c.get.ensures.found ∙ ap option_copied c.in-None.is) in
    sym (ap (λ (f : Option Order). unwrap_or (option_map (is_of_rank c.args.queue c.args.rank) f) false) none)

pub returns-in-Some-clause-value : goal.returns-in-Some-clause-value
returns-in-Some-clause-value g c =
    let f = c.in-Some.order.now in
    let found = subst (λ (p : ℕ). find (λ (o : Order). o.place == p) c.args.rows.now ≡ Some f) c.place.ensures
    (sym c.get.ensures.found ∙ ap option_copied c.in-Some.is) in
    c.is_of_rank.ensures ∙ sym (ap (λ (o : Option Order). unwrap_or (option_map (is_of_rank c.args.queue c.args.rank) o)
    false) found)
