use Rattle.std.proofs.Common.{◌≡◌, ℕ, ◌-◌, List, ◌++◌, length, drop, replicate, sym, ap, ◌∙◌, subst}
use Rattle.std.proofs.lemmas.List.{drop-replicate}
use Rattle.spread_rules_ids.specs.declared.id.Id.TheInside.{Inside}
use Rattle.spread_rules_ids.specs.code.IdFields.{IsKept}
use Rattle.spread_rules_ids.proofs.IdKept.{kept_new, id_parts}
use Rattle.spread_rules_ids.proofs.id.Id.of.Goals as goal

pub invariant_of-result : goal.invariant_of-result
invariant_of-result c =
    let text = c.args.text.now in
    let parts = id_parts text c.requires in
    let same : text ++ replicate (32 - length text) 0 ≡ c.copy_from_slice.new.self
    ++ drop (length text) (replicate 32 0) =
    ap (λ t. t ++ replicate (32 - length text) 0) (sym c.copy_from_slice.ensures.after)
    ∙ ap (λ t. c.copy_from_slice.new.self ++ t) (sym (drop-replicate (length text) 32 0)) in
    let P : List ℕ → Type 0 = λ bs. let i : Inside = record { bytes = bs; len = length text } in IsKept i in
    subst P same (kept_new text parts.0 parts.1 parts.2)
