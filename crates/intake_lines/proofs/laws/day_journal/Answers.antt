use Rattle.intake_lines.proofs.PartsOfTheJournal as journals
use Rattle.intake_lines.proofs.laws.day_journal.Goals as goal

pub returns-clause-part : goal.returns-clause-part
returns-clause-part c = journals.part

pub returns-clause-grows : goal.returns-clause-grows
returns-clause-grows c = journals.grows

pub returns-clause-lawful : goal.returns-clause-lawful
returns-clause-lawful c = journals.lawful
