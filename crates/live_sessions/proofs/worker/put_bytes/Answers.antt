use Rattle.live_sessions.proofs.SentAndOwed.{fed}
use Rattle.live_sessions.proofs.worker.put_bytes.Goals as goal

pub returns-clause-kept : goal.returns-clause-kept
returns-clause-kept g c =
    let after = c.put.ensures in (
      after.gate,
      fed c.args.gateway.now c.put.new.self c.args.stream.now c.args.put c.put.result after.sent
          after.pending,
    )
