use Rattle.fix_wire.specs.Layout.{message_text}
use Rattle.fix_wire.proofs.writing.WrittenMessage.{written_frame, written_fields, read_first}
use Rattle.fix_wire.proofs.laws.read_back.Goals as goal

pub returns-clause-lawful : goal.returns-clause-lawful
returns-clause-lawful c = written_frame

pub returns-clause-same : goal.returns-clause-same
returns-clause-same c = written_fields

pub returns-clause-first : goal.returns-clause-first
returns-clause-first c h fs more fits = read_first (message_text h fs) more (written_frame h fs fits)
