use Rattle.std.proofs.Common.{◌+◌, ◌∙◌, sym, subst, refl}
use Rattle.spread_rules.specs.code.Meaning.{meaning_of_journal}
use Rattle.apply_market.specs.Application.{Application, HasApplied}
use Rattle.apply_market.proofs.EntryByEntry.{applied_more}
use Rattle.apply_market.proofs.apply.MatchedJournal.apply.Goals as goal

pub returns-in-Ok-clause-next : goal.returns-in-Ok-clause-next
returns-in-Ok-clause-next g c es was =
    let inside = c.self.inside in
    let old : Application = record {
      market = inside.market;
      count = inside.count;
      fills = inside.fills.items;
      last =
          inside.last;
    } in
    let new : Application = record {
      market = c.apply.new.self;
      count = inside.count + 1;
      fills =
          c.apply.new.fills.items;
      last = c.len-last.result;
    } in
    let before : HasApplied es old = subst (HasApplied es) (sym c.self.view_is) was in
    applied_more es c.args.entry.now c.in-Ok.outcome old new before c.requires.fits c.in-Ok.ensures.rules refl
    (c.len-last.ensures ∙ inside.fills.ok.0)
    (c.in-Ok.ensures.meaning (meaning_of_journal inside.market.rules es) before.reads)
