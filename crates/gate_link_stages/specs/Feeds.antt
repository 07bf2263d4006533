-- The items of the ring to the thread that matches: entries, and one mark that ends them.
use Rattle.std.specs.Prelude.{ℕ, ◌-◌, Bool, true, false, List, [], ◌∷◌, length, take, drop}
use Rattle.spread_rules.specs.declared.event.Entry.{Entry}
use Rattle.gate_link_stages.specs.declared.feed.Fed.{Fed}
use Rattle.gate_link_stages.specs.declared.feed.Fed.TheVariants.{Entry as Item, End}

abbrev pub is_end : Fed → Bool
is_end (Item e) = false
is_end End = true

-- the entries among these items
abbrev pub entries : List Fed → List Entry
entries [] = []
entries (Item e ∷ xs) = e ∷ entries xs
entries (End ∷ xs) = entries xs

-- these items without the last ones, so many
abbrev pub first_items : List Fed → ℕ → List Fed
first_items xs last = take (length xs - last) xs

-- the items from one place to another
abbrev pub held_items : List Fed → ℕ → ℕ → List Fed
held_items xs from to = take (to - from) (drop from xs)
