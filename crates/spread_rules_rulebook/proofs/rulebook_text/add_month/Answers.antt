use Rattle.std.proofs.Common.{arith, take, sym, ◌∙◌}
use Rattle.spread_rules_rulebook.specs.RulebookText.{too_many, twice}
use Rattle.spread_rules_rulebook.proofs.rulebook_texts.DraftsOneLineMore.{count_is, gives_month, kept_month, is_named, not_named}
use Rattle.spread_rules_rulebook.proofs.rulebook_text.add_month.Goals as goal

pub returns-then-draft-ge-SLOTS-clause-gives : goal.returns-then-draft-ge-SLOTS-clause-gives
returns-then-draft-ge-SLOTS-clause-gives c = λ n line is.
    let fits = c.requires.fits in
    let count = count_is c.args.draft.now c.requires.draft in
    too_many fits.0 c.args.month fits.1 is fits.2 (omega arith)

pub returns-in-Some-clause-gives : goal.returns-in-Some-clause-gives
returns-in-Some-clause-gives c = λ n line is.
    let fits = c.requires.fits in
    let count = count_is c.args.draft.now c.requires.draft in
    let found = c.in-Some.ensures.found in
    twice fits.0 c.args.month fits.1 is fits.2 (omega arith)
    (is_named (take c.args.draft.now.list.count c.args.draft.now.list.slots) c.in-Some.field-0 c.args.month.name
    found.0 (found.1 ∙ c.bytes.ensures.value))

pub returns-clause-gives : goal.returns-clause-gives
returns-clause-gives c = λ n line is.
    let fits = c.requires.fits in
    gives_month n c.args.draft.now line fits.0 c.args.month c.requires.draft fits.1 is fits.2 (omega arith)
    (not_named (take c.args.draft.now.list.count c.args.draft.now.list.slots) c.args.month.name
    (λ k lt e. c.in_default.ensures.none k lt (e ∙ sym c.bytes.ensures.value)))

pub returns-clause-kept : goal.returns-clause-kept
returns-clause-kept c =
    let fits = c.requires.fits in
    kept_month c.args.draft.now fits.0 c.args.month c.requires.draft fits.1 fits.2 (omega arith)
    (not_named (take c.args.draft.now.list.count c.args.draft.now.list.slots) c.args.month.name
    (λ k lt e. c.in_default.ensures.none k lt (e ∙ sym c.bytes.ensures.value)))
