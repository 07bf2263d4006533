use Rattle.std.proofs.Common.{sym, subst, ◌≡◌, true}
use Rattle.std.specs.List.{All}
use Rattle.spread_rules.specs.Journal.{FitsEvent, is_in_order}
use Rattle.fix_wire_frames.specs.Frames.{frames}
use Rattle.fix_session_judging.specs.Streams.{events, whole}
use Rattle.fix_session_judging.proofs.events.StateOfPlaces.{whole_law}
use Rattle.fix_session_judging.proofs.events.InRangeAndOrder.{whole_lawful, events_fit}
use Rattle.fix_session_judging.proofs.laws.lawful.Goals as goal
use Rattle.spread_rules.proofs.journals.SessionParts.{in_order_of}

fits : (stream : _) → All FitsEvent (whole stream)
fits stream = subst (All FitsEvent) (whole_law (frames stream)) (whole_lawful (frames stream)).0

ordered : (stream : _) → is_in_order (whole stream) ≡ true
ordered stream = subst (λ es. is_in_order es ≡ true) (whole_law (frames stream)) (whole_lawful (frames stream)).1

pub returns-clause-fits : goal.returns-clause-fits
returns-clause-fits c = fits

pub returns-clause-fits_so_far : goal.returns-clause-fits_so_far
returns-clause-fits_so_far c stream = events_fit (events stream) _ (fits stream)

pub returns-clause-ordered : goal.returns-clause-ordered
returns-clause-ordered c = ordered

pub returns-clause-ordered_so_far : goal.returns-clause-ordered_so_far
returns-clause-ordered_so_far c stream = in_order_of (events stream) _ (ordered stream)

pub returns-clause-beginnings : goal.returns-clause-beginnings
returns-clause-beginnings c stream xs ys e = in_order_of xs ys
    (subst (λ es. is_in_order es ≡ true) (sym e) (ordered stream))
