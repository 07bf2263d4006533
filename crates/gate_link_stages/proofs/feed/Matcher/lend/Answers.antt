use Rattle.std.proofs.Common.{◌≡◌, ◌∙◌, sym, ap, refl, arith, ◌+◌, ◌-◌, ◌++◌, ◌∷◌, [], true, get_or, append-nil}
use Rattle.std.proofs.lemmas.List.{get_or_default}
use Rattle.rtrb.specs.Ring.{received}
use Rattle.gate_link_stages.specs.Feeds.{entries, is_end, first_items, held_items}
use Rattle.gate_link_stages.specs.Feeding.{handed, taken}
use Rattle.gate_link_stages.specs.Marks.{ends}
use Rattle.gate_link_stages.specs.declared.feed.Fed.{Fed}
use Rattle.gate_link_stages.specs.declared.feed.Fed.TheVariants.{Entry as Item, End}
use Rattle.gate_link_stages.proofs.Feeds.{one_more, next_held}
use Rattle.gate_link_stages.proofs.feed.Matcher.lend.Goals.{After-is_end-is_end}
use Rattle.gate_link_stages.proofs.feed.Matcher.lend.Goals as goal

-- Handing out the next held item puts it behind those handed out, and the others stay held.
next : (g : _) (c : After-is_end-is_end g)
    → (first_items (received c.fill.new.self.consumer) (c.fill.new.self.filled - (c.fill.new.self.next + 1)) ≡ handed
    c.fill.new.self ++ c.index-items-at.result ∷ [])
    × (received c.fill.new.self.consumer ≡ first_items (received c.fill.new.self.consumer)
    (c.fill.new.self.filled - (c.fill.new.self.next + 1))
    ++ held_items c.fill.new.self.items (c.fill.new.self.next + 1) c.fill.new.self.filled)
next g c =
    let m = c.fill.new.self in
    let x = c.index-items-at.result in
    next_held (received m.consumer) m.items m.next m.filled x x c.if-not-fill.ensures.held m.range.1 m.held
    c.index-items-at.is

-- It is ended just where that item is the mark, and the item's entry is the next one.
more : (g : _) (c : After-is_end-is_end g)
    → (ends is_end (first_items (received c.fill.new.self.consumer)
    (c.fill.new.self.filled - (c.fill.new.self.next + 1))) c.is_end-is_end.result ≡ true)
    × (entries (first_items (received c.fill.new.self.consumer) (c.fill.new.self.filled - (c.fill.new.self.next + 1))) ≡
    taken c.args.self.now ++ entries (c.index-items-at.result ∷ []))
more g c =
    let m = c.fill.new.self in
    let x = c.index-items-at.result in
    let xs = first_items (received m.consumer) (m.filled - (m.next + 1)) in
    let step = one_more (handed m) xs x m.ended m.shape (c.fill.ensures.ended ∙ c.if-self.false) ((next g c).0) in
    let mark : c.is_end-is_end.result ≡ is_end x = c.is_end-is_end.ensures ∙ ap is_end (sym c.index-items-at.is) in
    (ap (ends is_end xs) mark ∙ step.0, step.1 ∙ ap (λ ys. entries ys ++ entries (x ∷ [])) c.fill.ensures.handed)

-- The item that is lent is the one that was looked at.
same : (g : _) (c : After-is_end-is_end g) (y z : Fed) → get_or c.fill.new.self.items c.fill.new.self.next y ≡ z
    → (c.is_end-is_end.result ≡ is_end z)
    × (entries (first_items (received c.fill.new.self.consumer) (c.fill.new.self.filled - (c.fill.new.self.next + 1))) ≡
    taken c.args.self.now ++ entries (z ∷ []))
same g c y z is =
    let m = c.fill.new.self in
    let x = c.index-items-at.result in
    let looked : get_or m.items m.next x ≡ z = get_or_default m.items m.next x y
    (omega (arith, c.if-not-fill.ensures.held, m.range.1)) ∙ is in (
      c.is_end-is_end.ensures ∙ ap is_end looked,
      (more g c).1
          ∙ ap (λ t. taken c.args.self.now ++ entries (t ∷ [])) (c.index-items-at.is ∙ looked),
    )

pub invariant_of-self : goal.invariant_of-self
invariant_of-self g c =
    let m = c.fill.new.self in
    record {
      room = m.room;
      range = (omega (arith, c.if-not-fill.ensures.held), m.range.1);
      held = (next g c).1;
      shape = (more g c).0;
    }

pub returns-in-Entry : goal.returns-in-Entry
returns-in-Entry g c =
    let took = same g (goal.at.returns-in-Entry g c).After-is_end-is_end c.index-held-at.result (Item c.in-Entry.entry)
    c.in-Entry.is in (
      (refl, (λ _. tt), (c.fill.ensures.ring, (c.if-self.false, took.1, took.0))),
      record { after = tt },
    )

pub returns-in-End : goal.returns-in-End
returns-in-End g c =
    let took = same g (goal.at.returns-in-End g c).After-is_end-is_end c.index-held-at.result End c.in-End.is in (
      (refl, (λ _. tt), (c.fill.ensures.ring, (took.1 ∙ append-nil (taken c.args.self.now), took.0))),
      record { after = tt },
    )
