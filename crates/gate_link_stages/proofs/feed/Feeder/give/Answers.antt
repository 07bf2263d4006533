use Rattle.std.proofs.Common.{true, arith, List, ◌≡◌, ◌∙◌, ap, refl, length, ◌<◌, ◌≤◌, ◌++◌, take, subst}
use Rattle.std.proofs.lemmas.List.{length-set}
use Rattle.rtrb.specs.Ring.{sent}
use Rattle.gate_link_stages.specs.Feeds.{entries, is_end}
use Rattle.gate_link_stages.specs.declared.feed.Fed.{Fed}
use Rattle.gate_link_stages.specs.Marks.{ends}
use Rattle.gate_link_stages.proofs.Feeds.{items_of, item_more, slice_more}
use Rattle.gate_link_stages.proofs.Giving.{left, length-left, gave, front_prefix, gave_length}
use Rattle.gate_link_stages.proofs.feed.Feeder.give.Goals as goal
use Rattle.gate_link_stages.proofs.feed.Feeder.give.Goals.{In-Ok}

-- the items pushed are the next entries
whole : (g : _) (c : In-Ok g) → take c.min-most.result c.loop-i.items ≡ items_of
    (take c.min-most.result (left c.args.journal.now c.args.self.now.count))
whole g c =
    let n : c.loop-i.i ≡ c.min-most.result = omega (arith, c.loop-i.auto.i-end, c.loop-i-test.false) in
    subst (λ k. take k c.loop-i.items ≡ items_of (take k (left c.args.journal.now c.args.self.now.count))) n
    c.loop-i.invariant.done

pushed : (g : _) (c : In-Ok g) → (ends is_end (sent c.push_entire_slice.new.self) c.args.self.now.ended ≡ true)
    × (entries (sent c.push_entire_slice.new.self) ≡ entries (sent c.args.self.now.producer)
    ++ take c.min-most.result (left c.args.journal.now c.args.self.now.count))
pushed g c =
    let f = c.args.self.now in
    slice_more (sent f.producer) (sent c.push_entire_slice.new.self) (take c.min-most.result c.loop-i.items)
    (take c.min-most.result (left c.args.journal.now f.count)) f.ended f.shape c.if-self.false
    (c.in-Ok.ensures.ok.0 ∙ ap (λ (xs : List Fed). xs ++ take c.min-most.result c.loop-i.items)
    c.has_room.ensures.looked.1) (whole g c)

few : (g : _) (c : In-Ok g) → c.min-most.result ≤ length (left c.args.journal.now c.args.self.now.count)
few g c = omega (arith, c.min-most.ensures, c.min.ensures)

pub invariant_of-self-2 : goal.invariant_of-self-2
invariant_of-self-2 g c =
    let f = c.args.self.now in
    let now = pushed g c in
    record {
      shape = now.0;
      counted = gave_length (entries (sent f.producer)) c.args.journal.now
          (entries (sent c.push_entire_slice.new.self)) f.count c.min-most.result f.counted (few g c) now.1;
    }

pub returns-clause-give : goal.returns-clause-give
returns-clause-give g c =
    let f = c.args.self.now in
    let c = (goal.at.returns-clause-give g c).In-Ok in
    let given = entries (sent f.producer) in
    let size : c.min-most.result ≡ _ = c.min-most.ensures in (
      c.if-self.false,
      (λ same. c.if-self-journal.false (f.counted ∙ ap length same)),
      omega (
        arith,
        c.min-most.ensures,
        c.min.ensures,
        c.capacity.ensures,
        length-left c.args.journal.now f.count,
        f.counted,
      ),
      (pushed g c).1 ∙ gave given c.args.journal.now f.count c.min-most.result c.requires f.counted,
      c.if-self.false,
    )

pub returns-clause-prefix : goal.returns-clause-prefix
returns-clause-prefix g c =
    let f = c.args.self.now in
    let c = (goal.at.returns-clause-prefix g c).In-Ok in
    let given = entries (sent f.producer) in
    rw ((pushed g c).1 ∙ gave given c.args.journal.now f.count c.min-most.result c.requires f.counted)
    (front_prefix _ c.args.journal.now)

pub loop-i-preserved : goal.loop-i-preserved
loop-i-preserved g c =
    let few : c.loop-i.i < length (left c.args.journal.now c.args.self.now.count) =
    omega (arith, c.loop-i-test.true, c.min-most.ensures, c.min.ensures) in
    let within : c.loop-i.i < length c.loop-i.items = omega
    (arith, few, c.loop-i-test.true, c.min-most.ensures, c.min.ensures, c.loop-i.invariant.long) in
    record {
      done = item_more c.loop-i.items (left c.args.journal.now c.args.self.now.count) c.loop-i.i c.index-rest-i.result
          within few c.index-rest-i.is c.loop-i.invariant.done;
      long = length-set c.loop-i.items c.loop-i.i _ ∙ c.loop-i.invariant.long;
    }

pub invariant_of-self : goal.invariant_of-self
invariant_of-self g c =
    let same = c.has_room.ensures.looked.1 in
    record { shape = rw same c.args.self.now.shape; counted = rw same c.args.self.now.counted }

pub returns-then-not-has_room-clause-give : goal.returns-then-not-has_room-clause-give
returns-then-not-has_room-clause-give g c =
    let f = c.args.self.now in (
      c.if-self.false,
      (λ same. c.if-self-journal.false (f.counted ∙ ap length same)),
      omega (
        arith,
        c.if-not-has_room.ensures.room,
        c.min-most.ensures,
        c.min.ensures,
        c.capacity.ensures,
        length-left c.args.journal.now f.count,
        f.counted,
      ),
      (ap entries c.has_room.ensures.looked.1, refl),
    )
