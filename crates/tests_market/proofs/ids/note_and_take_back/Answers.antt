use Rattle.tests_market.proofs.ids.note_and_take_back.Goals as goal

pub returns : goal.returns
returns g c = c.take_back.ensures c.args.keys.now c.in_ok-noted.ensures.back
