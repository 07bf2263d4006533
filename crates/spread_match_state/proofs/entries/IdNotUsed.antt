-- an entry whose id was not used, and one whose id was
use Rattle.std.proofs.Common.{◌≡◌, true, false, List, Option, Some, None, refl}
use Rattle.std.specs.Option.{is_some}
use Rattle.spread_rules.specs.declared.order.Order.{Order}
use Rattle.spread_rules.specs.declared.outcome.OrderStatus.{OrderStatus}
use Rattle.spread_rules.specs.declared.outcome.Outcome.TheVariants.{Refused}
use Rattle.spread_rules.specs.Meaning.{EntryMeaning, untraded}
use Rattle.spread_match_state.specs.code.StateAfter.{refused_if_used}

pub id_is_new : (earlier : Option OrderStatus) (xs : List Order) (e : EntryMeaning) → is_some earlier ≡ false
    → refused_if_used earlier xs e ≡ e
id_is_new None xs e none = refl
id_is_new (Some s) xs e none = cc

pub id_was_used : (earlier : Option OrderStatus) (xs : List Order) (e : EntryMeaning) → is_some earlier ≡ true
    → untraded (Refused 6) xs ≡ refused_if_used earlier xs e
id_was_used None xs e used = cc
id_was_used (Some s) xs e used = refl
