use Rattle.spread_report.proofs.entries.OneEntryMore.{sent_start, sent_more, sent_same, sent_spent}
use Rattle.spread_report.proofs.laws.running.Goals as goal

pub returns-clause-start : goal.returns-clause-start
returns-clause-start c = sent_start

pub returns-clause-more : goal.returns-clause-more
returns-clause-more c rules stamp next worked w desk after texts new h =
    sent_more rules stamp next worked desk after texts new h w

pub returns-clause-same : goal.returns-clause-same
returns-clause-same c rules stamp next worked desk after texts new h same count bytes =
    sent_same rules stamp next worked desk after texts new h same count bytes

pub returns-clause-spent : goal.returns-clause-spent
returns-clause-spent c rules stamp next worked w desk texts h r =
    sent_spent rules stamp next worked desk desk texts texts h w r
