use Rattle.live_matching.proofs.matching.fn.start_matching.spawn_with+FnOnce.call_once.Goals as goal

pub spawn_with-requires : goal.spawn_with-requires
spawn_with-requires g c = let r = c.requires.1.1.1 in (r.1.0, (r.1.1, (r.1.2, (r.1.3, r.0))))
