use Rattle.std.proofs.Common.{◌≡◌, ℕ, ◌-◌, List, [], ◌++◌, Option, None, take, replicate, length, vec_len, ap, ◌∙◌}
use Rattle.spread_books_queues.specs.declared.front_table.BestPrice.{BestPrice}
use Rattle.spread_books_queues.proofs.front_table.FrontTable.make_room.Goals as goal

pub returns-clause-ok : goal.returns-clause-ok
returns-clause-ok g c =
    let slots = c.self.inside.slots in
    let none : slots.items ≡ [] = c.self.view_is ∙ c.requires in
    let size : vec_len slots ≡ 0 = slots.ok.0 ∙ ap (λ (xs : List (Option BestPrice)). length xs) none in
    c.in_ok-resize.ensures.items ∙ ap (λ (xs : List (Option BestPrice)). take 1200 xs
    ++ replicate (1200 - vec_len slots) None) none ∙ ap (λ (n : ℕ). replicate (1200 - n) None) size
