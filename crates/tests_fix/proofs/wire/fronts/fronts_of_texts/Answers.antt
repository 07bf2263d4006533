use Rattle.std.proofs.Common.{refl}
use Rattle.tests_fix.proofs.wire.fronts.fronts_of_texts.Goals as goal

pub of_frame-sell-requires-clause-tabled : goal.of_frame-sell-requires-clause-tabled
of_frame-sell-requires-clause-tabled g c = c.in-Frame.ensures.table c.in-Frame.n refl
