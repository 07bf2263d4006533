-- Entries and the end mark among the items of the ring to the thread that matches.
use Rattle.std.proofs.Common.{◌≡◌, ◌∙◌, sym, ap, refl, arith, ℕ, suc, ◌+◌, ◌-◌, ◌<◌, ◌≤◌, Bool, true, false, List, [], ◌∷◌, ◌++◌, length, get_or, take, drop, set, map, append-nil, append_assoc, take_at, length-append, length-take, length-drop, subst}
use Rattle.std.proofs.lemmas.List.{drop_more}
use Rattle.std.proofs.lemmas.Grind.{common_steps}
use Rattle.spread_rules.specs.declared.event.Entry.{Entry}
use Rattle.gate_link_stages.specs.declared.feed.Fed.{Fed}
use Rattle.gate_link_stages.specs.declared.feed.Fed.TheVariants.{Entry as Item, End}
use Rattle.gate_link_stages.specs.Feeds.{entries, is_end, first_items, held_items}
use Rattle.gate_link_stages.specs.Feeding.{Agrees}
use Rattle.gate_link_stages.specs.Marks.{ends}
use Rattle.gate_link_stages.proofs.Marks.{ends_more, ends_mark, all_taken}

-- these entries as items
abbrev pub items_of : List Entry → List Fed
items_of es = map (λ (e : Entry). Item e) es

pub entries-append : (xs ys : List Fed) → entries (xs ++ ys) ≡ entries xs ++ entries ys
entries-append [] ys = refl
entries-append (Item e ∷ xs) ys = ap (λ t. e ∷ t) (entries-append xs ys)
entries-append (End ∷ xs) ys = entries-append xs ys

entries_items : (es : List Entry) → entries (items_of es) ≡ es
entries_items [] = refl
entries_items (e ∷ es) = ap (λ t. e ∷ t) (entries_items es)

-- entries that are pushed come last
entries_more : (xs : List Fed) (es : List Entry) → entries (xs ++ items_of es) ≡ entries xs ++ es
entries_more xs es = entries-append xs (items_of es) ∙ ap (λ t. entries xs ++ t) (entries_items es)

ends_items : (xs : List Fed) (es : List Entry) → ends is_end xs false ≡ true
    → ends is_end (xs ++ items_of es) false ≡ true
ends_items xs [] h = subst (λ t. ends is_end t false ≡ true) (sym (append-nil xs)) h
ends_items xs (e ∷ es) h =
    subst (λ t. ends is_end t false ≡ true) (append_assoc xs (Item e ∷ []) (items_of es))
    (ends_items (xs ++ Item e ∷ []) es (ends_more is_end xs (Item e) h refl))

-- the next of the entries, put where the next of the items stands
pub item_more : (is : List Fed) (es : List Entry) (i : ℕ) (e : Entry) → i < length is → i < length es
    → e ≡ get_or es i e → take i is ≡ items_of (take i es)
    → take (i + 1) (set is i (Item e)) ≡ items_of (take (i + 1) es)
item_more is es i e within few at done = grind (arith, common_steps)

-- an entry more
entry_more : (xs ys : List Fed) (x : Fed) (e : Entry) (b : Bool) → ends is_end xs b ≡ true → b ≡ false → ys ≡ xs
    ++ x ∷ [] → x ≡ Item e
    → (ends is_end ys b ≡ true) × (entries ys ≡ entries xs ++ e ∷ [])
entry_more xs ys x e true was not all is = absurd (cc not)
entry_more xs ys x e false was not all is = rw (all, is) (ends_items xs (e ∷ []) was, entries_more xs (e ∷ []))

-- the end mark
pub end_more : (xs ys : List Fed) (x : Fed) (b : Bool) → ends is_end xs b ≡ true → b ≡ false → ys ≡ xs ++ x ∷ []
    → x ≡ End
    → (ends is_end ys true ≡ true) × (entries ys ≡ entries xs)
end_more xs ys x true was not all is = absurd (cc not)
end_more xs ys x false was not all is = rw (all, is)
    (ends_mark is_end xs End was refl, entries-append xs (End ∷ []) ∙ append-nil (entries xs))

-- an item more, whichever it is
pub one_more : (xs ys : List Fed) (x : Fed) (b : Bool) → ends is_end xs b ≡ true → b ≡ false → ys ≡ xs ++ x ∷ []
    → (ends is_end ys (is_end x) ≡ true) × (entries ys ≡ entries xs ++ entries (x ∷ []))
one_more xs ys (Item e) b was not all =
    let more = entry_more xs ys (Item e) e b was not all refl in
    (subst (λ t. ends is_end ys t ≡ true) not more.0, more.1)
one_more xs ys End b was not all =
    let more = end_more xs ys End b was not all refl in
    (more.0, more.1 ∙ sym (append-nil (entries xs)))

-- several entries more
pub slice_more : (xs ys is : List Fed) (es : List Entry) (b : Bool) → ends is_end xs b ≡ true → b ≡ false → ys ≡ xs
    ++ is → is ≡ items_of es
    → (ends is_end ys b ≡ true) × (entries ys ≡ entries xs ++ es)
slice_more xs ys is es true was not all same = absurd (cc not)
slice_more xs ys is es false was not all same = rw (all, same) (ends_items xs es was, entries_more xs es)

-- what both ends say in one thread
pub agreed : (xs ys known : List Fed) (over ended : Bool) → ends is_end xs over ≡ true → ends is_end ys ended ≡ true
    → xs ++ known ≡ ys
    → Agrees over ended (entries ys) (entries xs)
agreed xs ys known true ended was gave all =
    let taken = all_taken is_end xs known ys ended was gave all in
    (taken.0, ap entries taken.1)
agreed xs ys known false ended was gave all = (entries known, sym (entries-append xs known) ∙ ap entries all)

-- the next of the items that are held comes behind those that were handed out
pub next_held : (all hs : List Fed) (next filled : ℕ) (x d : Fed) → next < filled → filled ≤ length hs
    → all ≡ first_items all (filled - next) ++ held_items hs next filled → x ≡ get_or hs next d
    → (first_items all (filled - (next + 1)) ≡ first_items all (filled - next) ++ x ∷ [])
    × (all ≡ first_items all (filled - (next + 1)) ++ held_items hs (next + 1) filled)
next_held all hs next filled x d some within held is =
    let left = filled - next in
    let less = filled - (next + 1) in
    let front = first_items all left in
    let later = held_items hs (next + 1) filled in
    let one : left ≡ suc less = omega arith in
    let here : held_items hs next filled ≡ x ∷ later = ap (λ n. take n (drop next hs)) one
    ∙ (ap (take (suc less)) (drop_more hs next d (omega arith)) ∙ ap (λ y. y ∷ later) (sym is)) in
    let parts : all ≡ (front ++ x ∷ []) ++ later = held
    ∙ (ap (λ t. front ++ t) here ∙ sym (append_assoc front (x ∷ []) later)) in
    let sum = ap length held ∙ length-append front (held_items hs next filled) in
    let back = length-take left (drop next hs) in
    let rest = length-drop next hs in
    let fore = length-take (length all - left) all in
    let long : length (front ++ x ∷ []) ≡ length all - less = length-append front (x ∷ [])
    ∙ omega (arith, sum, back, rest, fore) in
    let first : first_items all less ≡ front ++ x ∷ [] = ap (take (length all - less)) parts
    ∙ take_at (front ++ x ∷ []) later (length all - less) long in
    (first, parts ∙ ap (λ t. t ++ later) (sym first))
