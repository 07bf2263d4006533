use Rattle.std.proofs.Common.{◌≡◌, List, Some, None, map, ap, sym, ◌∙◌}
use Rattle.std.specs.Prelude.{slice_get, option_and_then}
use Rattle.std.specs.List.{find}
use Rattle.spread_rules.specs.declared.outcome.OrderStatus.{OrderStatus}
use Rattle.spread_rules.specs.Meaning.{has_id}
use Rattle.spread_rules_ids.specs.declared.id_key.IdKey.{IdKey}
use Rattle.spread_rules_ids.specs.IdKeys.{key_of}
use Rattle.spread_books_ids.specs.Ids.{first_row}
use Rattle.spread_match_statuses.specs.code.Statuses.{key_of_status}
use Rattle.spread_match_statuses.proofs.status_rows.ByClOrdId.{find_is}
use Rattle.spread_match_statuses.proofs.statuses.Statuses.find.Goals as goal

pub returns-in-None : goal.returns-in-None
returns-in-None g c =
    let rows = c.self.inside.rows.items in
    let session = c.args.session in
    let id = c.args.id.now in
    let ks = map key_of_status rows in
    let looked : None ≡ first_row (key_of session id) ks =
    sym c.in-None.is ∙ (c.find.ensures
    ∙ (ap (λ (xs : List OrderStatus). first_row c.new.result (map key_of_status xs)) c.deref.ensures.value
    ∙ ap (λ (k : IdKey). first_row k ks) c.new.ensures.key)) in
    ap (option_and_then (slice_get rows)) looked
    ∙ (find_is rows session id c.self.invariant.1.bytes c.new.ensures.bytes
    ∙ ap (λ (ss : List OrderStatus). find (has_id session id) ss) c.self.view_is)

pub returns-in-Some : goal.returns-in-Some
returns-in-Some g c =
    let rows = c.self.inside.rows.items in
    let session = c.args.session in
    let id = c.args.id.now in
    let ks = map key_of_status rows in
    let got : c.status_at.result ≡ slice_get rows c.in-Some.at = c.status_at.ensures
    ∙ ap (λ (xs : List OrderStatus). slice_get xs c.in-Some.at) c.deref-in-Some.ensures.value in
    let looked : Some c.in-Some.at ≡ first_row (key_of session id) ks =
    sym c.in-Some.is ∙ (c.find.ensures
    ∙ (ap (λ (xs : List OrderStatus). first_row c.new.result (map key_of_status xs)) c.deref.ensures.value
    ∙ ap (λ (k : IdKey). first_row k ks) c.new.ensures.key)) in
    got
    ∙ (ap (option_and_then (slice_get rows)) looked
    ∙ (find_is rows session id c.self.invariant.1.bytes c.new.ensures.bytes
    ∙ ap (λ (ss : List OrderStatus). find (has_id session id) ss) c.self.view_is))
