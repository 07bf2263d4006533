use Rattle.std.proofs.Common.{◌≡◌, ◌≤◌, refl, subst, arith, length, ℕ}
use Rattle.std.specs.Prelude.{IfErr}
use Rattle.spread_rules_rulebook.specs.Rulebook.{Rules}
use Rattle.gate_link.specs.Links.{journal_of}
use Rattle.live_day.specs.Streams.{IsThreadsFault}
use Rattle.live_sessions.specs.code.Sequencing.{SequenceEnds}
use Rattle.live_day.proofs.PostPairs.{posts_kept}
use Rattle.live_matching.proofs.RingEnds.{feed_kept}
use Rattle.live_day.proofs.sessions.finish.Goals as goal

-- nothing was given yet
pub sequence-sequenced-requires-clause-prefix : goal.sequence-sequenced-requires-clause-prefix
sequence-sequenced-requires-clause-prefix g c = rw c.requires.running.given_none
    (journal_of c.args.running.sequencer, refl)

pub conclude-requires-clause-joined : goal.conclude-requires-clause-joined
conclude-requires-clause-joined g c =
    let r = c.requires.running in
    let running = c.args.running in
    let promised = running.matching.promise in
    let m = c.join-matched.ensures in
    let q = c.sequence-sequenced.ensures in
    let hs = running.writing.handles in
    let rs = c.join_writers-written.result in
    let lr : length rs.items ≡ length hs.items = omega (arith, rs.ok.0, hs.ok.0, c.join_writers-written.ensures.len) in
    record {
      feed = feed_kept running.feeder c.sequence-sequenced.result.feeder promised.matcher.value
          c.join-matched.result.matcher q.ring m.ring r.feed;
      posts =
          posts_kept promised.posted.value.posters.items c.join-matched.result.posted.posters.items r.writers hs.items
          rs.items r.writing_count lr r.posts m.writers
          r.writing c.join_writers-written.ensures.kept;
      few_writers = omega (arith, lr, r.writing_count, r.few);
      worked = m.worked;
      given_on = q.given_on;
      parts = q.parts;
      size = subst (λ (n : ℕ). length c.sequence-sequenced.result.journal.items ≤ n) r.journal_room q.size;
      sequenced = subst (λ (n : ℕ). SequenceEnds c.sequence-sequenced.result.end n c.args.streams.now.value.items
          c.sequence-sequenced.result.journal.items c.sequence-sequenced.result.feeder) r.journal_room q.ends;
      matched = m.ends;
    }

pub returns-clause-fault : goal.returns-clause-fault
returns-clause-fault g c =
    subst (λ (rules : Rules). IfErr c.conclude.result (λ f. (ring : ℕ)
    → IsThreadsFault rules c.args.streams.now.value.items ring c.args.room f)) c.join-matched.ensures.rules
    c.conclude.ensures.fault
