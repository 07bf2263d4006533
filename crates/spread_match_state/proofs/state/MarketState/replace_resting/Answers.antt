use Rattle.std.proofs.Common.{ℕ, ◌++◌, sym, ap, ◌∙◌}
use Rattle.std.specs.List.{find}
use Rattle.std.proofs.lemmas.List.{append-nil}
use Rattle.spread_rules.specs.declared.event.Event.TheVariants.{Replace}
use Rattle.spread_rules.specs.Meaning.{EntryMeaning, has_id, instrument_or_refusal_of, untraded}
use Rattle.spread_rules.specs.declared.outcome.Outcome.TheVariants.{CancelRefused}
use Rattle.spread_match_state.specs.code.StateAfter.{state_with}
use Rattle.spread_books_ids.proofs.Tables.{on_ok}
use Rattle.spread_match_state.proofs.entries.ReplacedStates.{if_ok, kept_is, moved_is, refused_is}
use Rattle.spread_match_state.proofs.state.MarketState.replace_resting.Goals as goal

pub returns-in-Some-clause-outcome : goal.returns-in-Some-clause-outcome
returns-in-Some-clause-outcome g c =
    let m = c.args.self.now in
    let r = c.args.resting.now in
    let t = c.args.ticket.now in
    let is = refused_is c.args.rules.now m.orders c.args.place t
    (instrument_or_refusal_of c.args.rules.now m.statuses r.session t) r c.in-Some.reason
    (c.in-Some.ensures (find (has_id r.session t.id) m.statuses) c.is_used-used.ensures) in
    if_ok c.refuse_replace.result _ _ (ap (λ (k : ℕ). CancelRefused c.in-Some.reason r.place k) c.resting_status.ensures
    ∙ ap (λ (e : EntryMeaning). e.outcome) is) c.refuse_replace.ensures.outcome

pub returns-in-Some-clause-after : goal.returns-in-Some-clause-after
returns-in-Some-clause-after g c =
    let m = c.args.self.now in
    let r = c.args.resting.now in
    let t = c.args.ticket.now in
    let is = refused_is c.args.rules.now m.orders c.args.place t
    (instrument_or_refusal_of c.args.rules.now m.statuses r.session t) r c.in-Some.reason
    (c.in-Some.ensures (find (has_id r.session t.id) m.statuses) c.is_used-used.ensures) in
    on_ok c.refuse_replace.result _ _ (λ h. h r.id ∙ ap (state_with m c.args.place r.session (Replace r.id t))
    (ap (λ (k : ℕ). untraded (CancelRefused c.in-Some.reason r.place k) m.orders) c.resting_status.ensures ∙ is))
    c.refuse_replace.ensures.after

pub returns-then-keeps_place-clause-outcome : goal.returns-then-keeps_place-clause-outcome
returns-then-keeps_place-clause-outcome g c =
    let m = c.args.self.now in
    let r = c.args.resting.now in
    let t = c.args.ticket.now in
    let is = kept_is c.args.rules.now m.orders c.args.place t
    (instrument_or_refusal_of c.args.rules.now m.statuses r.session t) r
    (c.in_default.ensures (find (has_id r.session t.id) m.statuses) c.is_used-used.ensures) c.if-keeps_place.ensures
    in
    if_ok c.keep_place.result _ _ (ap (λ (e : EntryMeaning). e.outcome) is) c.keep_place.ensures.outcome

pub returns-then-keeps_place-clause-fills : goal.returns-then-keeps_place-clause-fills
returns-then-keeps_place-clause-fills g c =
    let m = c.args.self.now in
    let r = c.args.resting.now in
    let t = c.args.ticket.now in
    let is = kept_is c.args.rules.now m.orders c.args.place t
    (instrument_or_refusal_of c.args.rules.now m.statuses r.session t) r
    (c.in_default.ensures (find (has_id r.session t.id) m.statuses) c.is_used-used.ensures) c.if-keeps_place.ensures
    in
    on_ok c.keep_place.result _ _ (λ h. sym (append-nil c.args.fills.now.items)
    ∙ ap (λ (e : EntryMeaning). c.args.fills.now.items ++ e.fills) is) c.keep_place.ensures.after

pub returns-then-keeps_place-clause-after : goal.returns-then-keeps_place-clause-after
returns-then-keeps_place-clause-after g c =
    let m = c.args.self.now in
    let r = c.args.resting.now in
    let t = c.args.ticket.now in
    let is = kept_is c.args.rules.now m.orders c.args.place t
    (instrument_or_refusal_of c.args.rules.now m.statuses r.session t) r
    (c.in_default.ensures (find (has_id r.session t.id) m.statuses) c.is_used-used.ensures) c.if-keeps_place.ensures
    in
    on_ok c.keep_place.result _ _ (λ h. h ∙ ap (state_with m c.args.place r.session (Replace r.id t)) is)
    c.keep_place.ensures.after

pub returns-else-keeps_place-clause-outcome : goal.returns-else-keeps_place-clause-outcome
returns-else-keeps_place-clause-outcome g c =
    let m = c.args.self.now in
    let r = c.args.resting.now in
    let t = c.args.ticket.now in
    let is = moved_is c.args.rules.now m.orders c.args.place t
    (instrument_or_refusal_of c.args.rules.now m.statuses r.session t) r
    (c.in_default.ensures (find (has_id r.session t.id) m.statuses) c.is_used-used.ensures) c.if-keeps_place.ensures
    in
    if_ok c.lose_place.result _ _ (ap (λ (e : EntryMeaning). e.outcome) is) c.lose_place.ensures.outcome

pub returns-else-keeps_place-clause-fills : goal.returns-else-keeps_place-clause-fills
returns-else-keeps_place-clause-fills g c =
    let m = c.args.self.now in
    let r = c.args.resting.now in
    let t = c.args.ticket.now in
    let is = moved_is c.args.rules.now m.orders c.args.place t
    (instrument_or_refusal_of c.args.rules.now m.statuses r.session t) r
    (c.in_default.ensures (find (has_id r.session t.id) m.statuses) c.is_used-used.ensures) c.if-keeps_place.ensures
    in
    on_ok c.lose_place.result _ _ (λ h. h ∙ ap (λ (e : EntryMeaning). c.args.fills.now.items ++ e.fills) is)
    c.lose_place.ensures.fills

pub returns-else-keeps_place-clause-after : goal.returns-else-keeps_place-clause-after
returns-else-keeps_place-clause-after g c =
    let m = c.args.self.now in
    let r = c.args.resting.now in
    let t = c.args.ticket.now in
    let is = moved_is c.args.rules.now m.orders c.args.place t
    (instrument_or_refusal_of c.args.rules.now m.statuses r.session t) r
    (c.in_default.ensures (find (has_id r.session t.id) m.statuses) c.is_used-used.ensures) c.if-keeps_place.ensures
    in
    on_ok c.lose_place.result _ _ (λ h. h ∙ ap (state_with m c.args.place r.session (Replace r.id t)) is)
    c.lose_place.ensures.after
