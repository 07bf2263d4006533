use Rattle.std.proofs.Common.{refl}
use Rattle.spread_report_outbound.proofs.OneMessage.{sent_one, kept_one}
use Rattle.spread_report_outbound.proofs.outbox.Outbox.send_body.Goals as goal

pub returns-clause-sent : goal.returns-clause-sent
returns-clause-sent g c =
    let a = c.args.self.now in
    let w = c.append.ensures in
    record {
      lent = record { outbound = refl; lists = refl };
      stamp = w.stamp;
      result = sent_one a.outbound.now c.append.new.self a.lists.now c.args.session c.index-lists-session.result
          c.append.new.list c.args.kind (g.B.Body.fields c.args.body.now) a.counted c.requires.session c.append.result
          w.appended w.spent w.unchanged_on_err w.list_kept;
    }

pub returns-clause-lists_kept : goal.returns-clause-lists_kept
returns-clause-lists_kept g c =
    let a = c.args.self.now in
    kept_one a.outbound.now c.append.new.self a.lists.now c.args.session c.index-lists-session.result
    c.append.new.list c.args.kind (g.B.Body.fields c.args.body.now) a.counted c.requires.session c.append.result
    c.append.ensures.list_kept
