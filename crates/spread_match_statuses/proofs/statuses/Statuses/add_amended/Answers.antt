use Rattle.std.proofs.Common.{◌≡◌, List, [], ◌++◌, ◌∷◌, false, map, subst, sym, ap, ◌∙◌, Option}
use Rattle.std.specs.List.{find}
use Rattle.std.specs.Option.{is_some}
use Rattle.spread_rules.specs.declared.outcome.OrderStatus.{OrderStatus}
use Rattle.spread_rules.specs.Meaning.{has_id}
use Rattle.spread_books_ids.specs.Tables.{IsTableOf}
use Rattle.spread_books_ids.specs.Notes.{CanTakeBack}
use Rattle.spread_match_statuses.specs.code.Statuses.{AreRefusedLater, key_of_status, IsIndex}
use Rattle.spread_match_statuses.proofs.status_rows.ByClOrdId.{index_more}
use Rattle.spread_match_statuses.proofs.status_rows.MarkedRows.{later_more}
use Rattle.spread_match_statuses.proofs.statuses.Statuses.add_amended.Goals as goal

pub invariant_of-self-then-is_err : goal.invariant_of-self-then-is_err
invariant_of-self-then-is_err g c =
    let rows = c.self.inside.rows.items in
    let shown : c.deref.result.now ≡ rows = c.deref.ensures.value ∙ c.reserve.ensures.items in
    let back = subst (λ (xs : List OrderStatus). CanTakeBack c.note.new.self c.in_ok-noted.noted c.new-key.result
    (map key_of_status xs)) shown c.in_ok-noted.ensures.back in (
      subst AreRefusedLater (sym c.reserve.ensures.items) c.self.invariant.0,
      subst (IsIndex c.take_back.new.self) (sym c.reserve.ensures.items)
          (record { bytes = c.self.invariant.1.bytes; table = c.take_back.ensures (map key_of_status rows) back }),
    )

pub invariant_of-self-2 : goal.invariant_of-self-2
invariant_of-self-2 g c =
    let rows = c.self.inside.rows.items in
    let s = c.args.status in
    let items : c.push_reserved.new.self.items ≡ rows ++ s ∷ [] = c.push_reserved.ensures.items
    ∙ ap (λ (xs : List OrderStatus). xs ++ s ∷ []) c.reserve.ensures.items in
    let shown : c.deref.result.now ≡ rows = c.deref.ensures.value ∙ c.reserve.ensures.items in
    let table = subst (λ (xs : List OrderStatus). IsTableOf c.note.new.self
    (map key_of_status xs ++ c.new-key.result ∷ [])) shown c.in_ok-noted.ensures.ok in
    let unused : false ≡ is_some (find (has_id s.session s.id) rows) =
    sym (ap (λ (o : Option OrderStatus). is_some o) (ap (find (has_id s.session s.id)) c.self.view_is
    ∙ c.requires.unused)) in (
      subst AreRefusedLater (sym items) (later_more rows s false unused (λ e. cc) c.self.invariant.0),
      subst (IsIndex c.note.new.self) (sym items) (index_more c.note.new.self rows s c.new-key.result
          c.new-key.ensures.bytes c.new-key.ensures.key c.self.invariant.1.bytes table),
    )
