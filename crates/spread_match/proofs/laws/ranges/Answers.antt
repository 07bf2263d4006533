use Rattle.spread_match.proofs.journals.InRange.{journal_ranges, prefix_ranges, step_ranges}
use Rattle.spread_match.proofs.laws.ranges.Goals as goal

pub returns : goal.returns
returns c = record {
  fills = λ rules journal r f. (journal_ranges rules journal r f).range.fills;
  entry = λ rules journal r f n d l. step_ranges rules journal n d r f l;
  orders = λ rules journal r f n. (prefix_ranges rules journal n r f).range.orders;
  lasts = λ rules journal r f. (journal_ranges rules journal r f).range.placed;
}
