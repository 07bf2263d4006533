use Rattle.std.proofs.Common.{◌≡◌, ◌∙◌, sym, ap, subst, ℕ, ◌<◌, List, length, arith, vec_len, true, Option, Some, None, refl}
use Rattle.std.specs.Prelude.{IfNone}
use Rattle.std.specs.List.{list_any}
use Rattle.std.proofs.lemmas.List.{with_items_is}
use Rattle.std.specs.Vec.{with_items}
use Rattle.spread_report_outbound.specs.Rows.{IsRow}
use Rattle.spread_report.specs.Messages.{messages_to}
use Rattle.spread_report_outbound.specs.Sessions.{bytes_of}
use Rattle.spread_report_outbound.specs.code.Sessions.{session_text}
use Rattle.apply_desk.specs.Applied.{applied_entries, outgoing_bytes}
use Rattle.apply_desk.specs.Sending.{sending_rules, stamp_of}
use Rattle.apply_desk.proofs.EntryByEntry.{texts_length}
use Rattle.apply_desk.proofs.HandedOn.{behind_length}
use Rattle.live_writers.specs.code.Writing.{written_at}
use Rattle.live_writers.specs.declared.writing.Written.{Written}
use Rattle.live_day.specs.Streams.{IsDayOfSessions}
use Rattle.live_matching.specs.code.Posting.{HasPosted, posted_at}
use Rattle.live_day.specs.declared.fault.ThreadsFault.{ThreadsFault}
use Rattle.live_day.proofs.CollectedBytes.{collected}
use Rattle.live_day.proofs.conclusion.conclude.Goals as goal
use Rattle.live_day.proofs.conclusion.conclude.Goals.{After-fault_of-fault, After-into_parts-fills}

none_found : {P : Type 0} (o : Option ThreadsFault) → ((f : ThreadsFault) → o ≡ Some f → ⊥) → IfNone o P → P
none_found None other h = h
none_found (Some f) other h = absurd (other f refl)

-- there are as many texts as sessions
sixteen : (g : _) (c : After-into_parts-fills g) → HasPosted c.args.sequenced.journal.items c.args.matched.posted
    → vec_len c.into_parts-fills.result.out ≡ 16
sixteen g c had =
    let p = c.args.matched.posted in
    let texts = p.reported.texts in
    let n : length texts ≡ 16 = sym (behind_length (posted_at p.posters.items) texts) ∙ had.reported.sent.count in
    let out = c.into_parts-fills.result.out in
    let kept = c.into_parts-fills.ensures.texts ∙ ap (λ r. r.texts) c.fault_of-fault.ensures.reported in
    omega (arith, out.ok.0, texts_length out.items, ap length kept, n)

pub with_written-out-requires : goal.with_written-out-requires
with_written-out-requires g c =
    let all = none_found c.fault_of-fault.result c.in_default.not-Some c.fault_of-fault.ensures.whole in
    omega (
      arith,
      sixteen g (goal.at.with_written-out-requires g c).After-into_parts-fills all.posted,
      c.requires.joined.few_writers,
      c.args.written.ok.0,
    )

pub returns-clause-day : goal.returns-clause-day
returns-clause-day g c =
    let all = none_found c.fault_of-fault.result c.in_default.not-Some c.fault_of-fault.ensures.whole in
    let p = c.args.matched.posted in
    let rules = sending_rules p.reported in
    let stamp = stamp_of p.reported in
    let journal = c.args.sequenced.journal.items in
    let ws = c.fault_of-fault.new.written in
    let items : (with_items c.args.written ws).items ≡ ws =
    with_items_is c.args.written ws (c.fault_of-fault.ensures.count ∙ c.as_mut_slice.ensures.len) in
    let n : vec_len c.args.written ≡ length p.posters.items =
    omega (arith, c.args.written.ok.0, all.count, c.fault_of-fault.ensures.count, c.as_mut_slice.ensures.len) in
    let out = c.with_written-out.result in
    let made = c.with_written-out.ensures in
    let kept = c.into_parts-fills.ensures.texts ∙ ap (λ r. r.texts) c.fault_of-fault.ensures.reported in
    let sent : (s : ℕ) → s < 16 → bytes_of out.items s ≡ outgoing_bytes rules stamp journal s =
    collected journal p (λ s. bytes_of out.items s) all.posted
    (λ s low.
    let below : s < vec_len c.args.written = omega (arith, low, n) in
    made.writers s below
    ∙ (ap (λ (xs : List (Written g.row.A.Denot)). written_at xs s) items
    ∙ all.written s (omega (arith, low, all.count))))
    (λ s past. made.others s (omega (arith, past, n)) ∙ ap (λ (ts : List (List ℕ)). session_text ts s) kept) in
    subst (λ j. IsDayOfSessions rules stamp c.args.streams.now.value.items record
    { journal = j; applied = record { fills = c.into_parts-fills.result.fills; out = out } })
    (sym c.fault_of-fault.ensures.journal)
    record {
      parts = all.parts;
      fills = c.into_parts-fills.ensures.fills ∙ (ap (λ r. r.applied.fills) c.fault_of-fault.ensures.reported
          ∙ all.posted.reported.applied.fills);
      lists = omega (
        arith,
        out.ok.0,
        made.count,
        sixteen g (goal.at.returns-clause-day g c).After-into_parts-fills
            all.posted,
      );
      out = sent;
      whole = λ s h. subst (IsRow (messages_to rules stamp (applied_entries rules journal) s)) (sym (sent s h))
          (all.posted.reported.sent.row s h);
    }

-- the writers that are looked at are those that were handed over
refused_is : (g : _) (c : After-fault_of-fault g) → list_any (λ (one : Written _). one.refused) c.args.written.items ≡
    true
    → list_any (λ (one : Written _). one.refused) c.as_mut_slice.result.now ≡ true
refused_is g c is = ap (list_any (λ (one : Written _). one.refused)) c.as_mut_slice.ensures.value ∙ is

pub returns-in-Some-clause-refused : goal.returns-in-Some-clause-refused
returns-in-Some-clause-refused g c apart is =
    let same = c.in-Some.ensures.refused apart
    (refused_is g (goal.at.returns-in-Some-clause-refused g c).After-fault_of-fault is) in
    cc same

pub returns-clause-full : goal.returns-clause-full
returns-clause-full g c is = absurd (c.in_default.not-Some _ (c.fault_of-fault.ensures.full is))

pub returns-clause-refused : goal.returns-clause-refused
returns-clause-refused g c apart is = absurd (c.in_default.not-Some _ (c.fault_of-fault.ensures.refused apart
    (refused_is g (goal.at.returns-clause-refused g c).After-fault_of-fault is)))
