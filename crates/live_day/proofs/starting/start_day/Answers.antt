use Rattle.std.proofs.Common.{◌≡◌, refl, arith, vec_len, ℕ, Option, Some, None}
use Rattle.std.specs.Prelude.{IfNone}
use Rattle.live_day.proofs.starting.start_day.Goals as goal

none_left : {P : Type 0} (o : Option ℕ) → ((x : ℕ) → o ≡ Some x → ⊥) → IfNone o P → P
none_left None other h = h
none_left (Some x) other h = absurd (other x refl)

pub returns-clause-running : goal.returns-clause-running
returns-clause-running g c =
    let made = c.requires.made in
    let stages = c.args.stages in
    let matching = c.in-Some-start_matching.ensures in
    let workers = c.start_all-workers.ensures in
    let writing = c.start_writers-writing.ensures in
    let rooms = c.in-Ok.ensures in
    let hs = c.start_all-workers.result.workers.handles in
    let ws = c.start_writers-writing.result.writing.handles in
    let all : vec_len hs ≡ vec_len stages.gateways = none_left c.start_all-workers.result.refused
    c.in_default-refused.not-Some workers.all in
    let all_writing : vec_len ws ≡ vec_len stages.writers =
    none_left c.start_writers-writing.result.refused c.in_default-refused-2.not-Some writing.all in
    record {
      staffed = record {
        gateways = stages.gateways.items;
        pairs = made.pairs;
        started = workers.started;
        handle_count = omega (arith, hs.ok.0, stages.gateways.ok.0, all);
        stream_count = c.requires.stream_count;
      };
      journal_room = made.room;
      given_none = made.given_none;
      feed = rw matching.0 made.feed;
      writers = stages.writers.items;
      posts = rw matching.1 made.posts;
      writing = writing.started;
      writing_count = omega (arith, ws.ok.0, stages.writers.ok.0, all_writing);
      few = omega (arith, made.writer_count, c.requires.stream_count, c.requires.few);
      gateways_back = rw workers.room (
        rooms.workers.1.0,
        omega (arith, rooms.workers.1.1, workers.most, c.len-sessions.ensures, stages.gateways.ok.0),
      );
      writers_back = rw writing.room (
        rooms.writers.1.0,
        omega (
          arith,
          rooms.writers.1.1,
          writing.most,
          c.len-sessions.ensures,
          made.writer_count,
          stages.gateways.ok.0,
          stages.writers.ok.0,
        ),
      );
    }
