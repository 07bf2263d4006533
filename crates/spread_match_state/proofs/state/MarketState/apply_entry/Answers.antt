use Rattle.std.proofs.Common.{◌++◌, sym, ap, subst, ◌∙◌}
use Rattle.std.specs.List.{find}
use Rattle.spread_rules.specs.Candidates.{PlacesDiffer}
use Rattle.spread_rules.specs.Meaning.{EntryMeaning, is_own}
use Rattle.spread_match_state.specs.code.StateAfter.{meaning_in, state_after}
use Rattle.spread_books_ids.proofs.Tables.{on_ok}
use Rattle.spread_match_orders.specs.code.Entering.{HaveStatuses}
use Rattle.spread_match_orders.proofs.entries.FoundStands.{find_stands}
use Rattle.spread_match_state.specs.State.{MarketState}
use Rattle.spread_match_state.proofs.entries.ReplacedStates.{if_ok, replaced_means, replaced_state}
use Rattle.spread_match_state.proofs.state.MarketState.apply_entry.Goals as goal

pub resting_order-requires-clause-places : goal.resting_order-requires-clause-places
resting_order-requires-clause-places g c =
    subst PlacesDiffer (sym (ap (λ (m : MarketState). m.orders) c.self.view_is)) c.requires.ready.tradable.places

pub resting_order-requires-clause-known : goal.resting_order-requires-clause-known
resting_order-requires-clause-known g c =
    subst (λ (m : MarketState). HaveStatuses m.statuses m.orders) (sym c.self.view_is) c.requires.ready.known

pub replace_resting-requires-clause-rests : goal.replace_resting-requires-clause-rests
replace_resting-requires-clause-rests g c =
    let m = c.args.self.now in
    let session = c.args.entry.now.session in
    let own = sym (ap (λ (x : MarketState). find (is_own session c.in-Replace.original) x.orders) c.self.view_is)
    ∙ sym c.in-Some.ensures in
    find_stands (is_own session c.in-Replace.original) m.orders c.in-Some.resting own

pub returns-in-Some-clause-outcome : goal.returns-in-Some-clause-outcome
returns-in-Some-clause-outcome g c =
    let m = c.args.self.now in
    let session = c.args.entry.now.session in
    let own = sym (ap (λ (x : MarketState). find (is_own session c.in-Replace.original) x.orders) c.self.view_is)
    ∙ sym c.in-Some.ensures in
    let is = replaced_means c.args.rules.now m c.args.place session c.in-Replace.original c.in-Replace.ticket
    c.in-Some.resting own ∙ ap (meaning_in c.args.rules.now m c.args.place session) (sym c.in-Replace.is) in
    if_ok c.replace_resting.result _ _ (ap (λ (e : EntryMeaning). e.outcome) is) c.replace_resting.ensures.outcome

pub returns-in-Some-clause-fills : goal.returns-in-Some-clause-fills
returns-in-Some-clause-fills g c =
    let m = c.args.self.now in
    let session = c.args.entry.now.session in
    let own = sym (ap (λ (x : MarketState). find (is_own session c.in-Replace.original) x.orders) c.self.view_is)
    ∙ sym c.in-Some.ensures in
    let is = replaced_means c.args.rules.now m c.args.place session c.in-Replace.original c.in-Replace.ticket
    c.in-Some.resting own ∙ ap (meaning_in c.args.rules.now m c.args.place session) (sym c.in-Replace.is) in
    on_ok c.replace_resting.result _ _ (λ h. h ∙ ap (λ (e : EntryMeaning). c.args.fills.now.items ++ e.fills) is)
    c.replace_resting.ensures.fills

pub returns-in-Some-clause-after : goal.returns-in-Some-clause-after
returns-in-Some-clause-after g c =
    let m = c.args.self.now in
    let session = c.args.entry.now.session in
    let own = sym (ap (λ (x : MarketState). find (is_own session c.in-Replace.original) x.orders) c.self.view_is)
    ∙ sym c.in-Some.ensures in
    on_ok c.replace_resting.result _ _
    (λ h. h ∙ (replaced_state c.args.rules.now m c.args.place session c.in-Replace.original c.in-Replace.ticket
    c.in-Some.resting own ∙ ap (state_after c.args.rules.now m c.args.place session) (sym c.in-Replace.is)))
    c.replace_resting.ensures.after
