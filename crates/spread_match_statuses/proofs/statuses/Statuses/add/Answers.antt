use Rattle.std.proofs.Common.{◌≡◌, List, [], ◌++◌, ◌∷◌, cond, map, subst, sym, ap, ◌∙◌}
use Rattle.std.specs.List.{find}
use Rattle.std.specs.Option.{is_some}
use Rattle.spread_rules.specs.declared.outcome.OrderStatus.{OrderStatus}
use Rattle.spread_rules.specs.Meaning.{has_id}
use Rattle.spread_rules_ids.specs.declared.id_key.IdKey.{IdKey}
use Rattle.spread_books_ids.specs.Ids.{first_row}
use Rattle.spread_books_ids.specs.Tables.{IsTableOf}
use Rattle.spread_match_statuses.specs.code.Statuses.{AreRefusedLater, key_of_status, IsIndex}
use Rattle.spread_match_statuses.proofs.status_rows.ByClOrdId.{index_more, used_is}
use Rattle.spread_match_statuses.proofs.status_rows.MarkedRows.{later_more}
use Rattle.spread_match_statuses.proofs.statuses.Statuses.add.Given.{Over}
use Rattle.spread_match_statuses.proofs.statuses.Statuses.add.Goals as goal
use Rattle.spread_match_statuses.proofs.statuses.Statuses.add.Goals.{After-push_reserved}

-- whether its session and id were used
used : (g : Over) (c : After-push_reserved g) → c.is_known-used.result ≡ is_some
    (find (has_id c.args.status.session c.args.status.id) c.self.inside.rows.items)
used g c =
    let s = c.args.status in
    let rows = c.self.inside.rows.items in
    let shown : c.deref.result.now ≡ rows = c.deref.ensures.value ∙ c.reserve.ensures.items in
    c.is_known-used.ensures
    ∙ (c.in_ok-noted.ensures.used
    ∙ (ap (λ (xs : List OrderStatus). is_some (first_row c.new-key.result (map key_of_status xs))) shown
    ∙ (ap (λ (k : IdKey). is_some (first_row k (map key_of_status rows))) c.new-key.ensures.key
    ∙ used_is rows s.session s.id c.self.invariant.1.bytes c.new-key.ensures.bytes)))

pub invariant_of-self-2 : goal.invariant_of-self-2
invariant_of-self-2 g c =
    let rows = c.self.inside.rows.items in
    let was = c.is_known-used.result in
    let s = record c.args.status { status = cond was 8 c.args.status.status } in
    let items : c.push_reserved.new.self.items ≡ rows ++ s ∷ [] =
    c.push_reserved.ensures.items ∙ (ap (λ (xs : List OrderStatus). xs ++ c.if_refused.result ∷ [])
    c.reserve.ensures.items ∙ ap (λ (t : OrderStatus). rows ++ t ∷ []) c.if_refused.ensures) in
    let shown : c.deref.result.now ≡ rows = c.deref.ensures.value ∙ c.reserve.ensures.items in
    let table = subst (λ (xs : List OrderStatus). IsTableOf c.note.new.self
    (map key_of_status xs ++ c.new-key.result ∷ [])) shown c.in_ok-noted.ensures.ok in (
      subst AreRefusedLater (sym items) (later_more rows s was (used g c)
          (λ e. ap (λ b. cond b 8 c.args.status.status) e) c.self.invariant.0),
      subst (IsIndex c.note.new.self) (sym items) (index_more c.note.new.self rows s c.new-key.result
          c.new-key.ensures.bytes c.new-key.ensures.key c.self.invariant.1.bytes table),
    )

pub returns-clause-used : goal.returns-clause-used
returns-clause-used g c = used g c ∙ ap (λ (ss : List OrderStatus). is_some
    (find (has_id c.args.status.session c.args.status.id) ss)) c.self.view_is
