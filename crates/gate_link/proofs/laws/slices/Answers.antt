use Rattle.gate_link.proofs.links.StepsInARow.{sent_in_a_row, taken_in_a_row}
use Rattle.gate_link.proofs.laws.slices.Goals as goal

pub returns-clause-sent : goal.returns-clause-sent
returns-clause-sent c = sent_in_a_row

pub returns-clause-taken : goal.returns-clause-taken
returns-clause-taken c = taken_in_a_row
