-- the order of a session's id is the one at the place that the status of that id names
use Rattle.std.proofs.Common.{◌≡◌, ℕ, ◌==◌, true, false, List, Contains, Option, Some, None, refl, subst, sym, ap, ◌∙◌, arith}
use Rattle.std.proofs.lemmas.Bool.{and_parts}
use Rattle.std.specs.Prelude.{option_map}
use Rattle.std.specs.List.{find}
use Rattle.std.specs.Str.{bytes_eq}
use Rattle.std.proofs.lemmas.Bool.Decides.{nat_tests}
use Rattle.std.proofs.lemmas.List.Elements.{All-contains}
use Rattle.std.proofs.lemmas.Slice.Eq.{bytes_eq-Decides}
use Rattle.spread_rules.specs.declared.order.Order.{Order}
use Rattle.spread_rules.specs.declared.outcome.OrderStatus.{OrderStatus}
use Rattle.spread_rules.specs.Candidates.{PlacesDiffer}
use Rattle.spread_rules.specs.Meaning.{has_id, is_own}
use Rattle.spread_books_rows.proofs.places.Ascending.{unfound, unfound_by}
use Rattle.spread_match_orders.specs.code.Entering.{HaveStatuses, place_of_id}
use Rattle.spread_match_orders.proofs.entries.FoundStands.{find_holds, find_none, find_stands}
use Rattle.spread_match_statuses.proofs.status_rows.MarkedRows.{same_number}

-- an order of that session and id stands at the place that their status names
known_own : (xs : List Order) (ss : List OrderStatus) (session : ℕ) (id : List ℕ) (o : Order) → HaveStatuses ss xs
    → Contains xs o → is_own session id o ≡ true → place_of_id ss session id ≡ Some o.place
known_own xs ss session id o known c e =
    let k = and_parts (o.session == session) (bytes_eq o.id id) e in
    let at = All-contains (λ (w : Order). place_of_id ss w.session w.id ≡ Some w.place) xs o known c in
    subst (λ (n : ℕ). place_of_id ss n id ≡ Some o.place) (same_number o.session session k.0)
    (subst (λ (i : List ℕ). place_of_id ss o.session i ≡ Some o.place) ((bytes_eq-Decides o.id id).0 k.1) at)

-- no order rests with it
pub unused_rests : (xs : List Order) (ss : List OrderStatus) (session : ℕ) (id : List ℕ) → HaveStatuses ss xs
    → find (has_id session id) ss ≡ None → find (is_own session id) xs ≡ None
unused_rests xs ss session id known none = find_none (is_own session id) xs (λ o c e.
    let at = known_own xs ss session id o known c e in
    let no : ◌≡◌ {A = Option ℕ} None (Some o.place) = sym (ap (option_map (λ (s : OrderStatus). s.place)) none)
    ∙ at in cc)

module _ (xs : List Order) (ss : List OrderStatus) (session : ℕ) (id : List ℕ) (s : OrderStatus)
    (differ : PlacesDiffer xs) (known : HaveStatuses ss xs) (is : find (has_id session id) ss ≡ Some s) where
  own_at : (o : Order) → Contains xs o → is_own session id o ≡ true → o.place ≡ s.place
  own_at o c e =
      let at = known_own xs ss session id o known c e in
      let same : ◌≡◌ {A = Option ℕ} (Some s.place) (Some o.place) =
      sym (ap (option_map (λ (t : OrderStatus). t.place)) is) ∙ at in cc

  -- no order stands there
  pub none_there : find (λ o. o.place == s.place) xs ≡ None → find (is_own session id) xs ≡ None
  none_there none = find_none (is_own session id) xs (λ o c e.
      let at = own_at o c e in
      let here : (o.place == s.place) ≡ true = grind (arith, nat_tests, at) in
      let gone = unfound xs s.place none o c in cc)

  -- another's order stands there
  pub another_there : (r : Order) → find (λ o. o.place == s.place) xs ≡ Some r → is_own session id r ≡ false
      → find (is_own session id) xs ≡ None
  another_there r found other = find_none (is_own session id) xs (λ o c e.
      let same : o ≡ r = differ o r c (find_stands (λ (p : Order). p.place == s.place) xs r found)
      (own_at o c e ∙ sym (same_number r.place s.place (find_holds (λ (p : Order). p.place == s.place) xs r found)))
      in
      let own : is_own session id r ≡ true = ap (is_own session id) (sym same) ∙ e in cc)

  -- it stands there
  pub own_there : (r : Order) → find (λ o. o.place == s.place) xs ≡ Some r → is_own session id r ≡ true
      → find (is_own session id) xs ≡ Some r
  own_there r found own = by_found (find (is_own session id) xs) refl
    where
      stands : Contains xs r
      stands = find_stands (λ (p : Order). p.place == s.place) xs r found

      by_found : (f : Option Order) → find (is_own session id) xs ≡ f → f ≡ Some r
      by_found None e = let none = unfound_by (is_own session id) xs e r stands in cc
      by_found (Some o) e =
          let c = find_stands (is_own session id) xs o e in
          let at = own_at o c (find_holds (is_own session id) xs o e) in
          ap (λ (p : Order). Some p) (differ o r c stands (at
          ∙ sym (same_number r.place s.place (find_holds (λ (p : Order). p.place == s.place) xs r found))))
