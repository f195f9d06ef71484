use Rattle.thp_journal_reader.proofs.PlainLines.{line_of-read, line_of-fails}
use Rattle.thp_journal_reader.proofs.line.line_of.Goals as goal

pub returns-in-Ok-clause-value : goal.returns-in-Ok-clause-value
returns-in-Ok-clause-value c = line_of-read c.args.version c.args.text.now c.in-Ok.line (rw c.of_line.ensures at c.in-Ok.ensures.value)

pub returns-in-Err-clause-value : goal.returns-in-Err-clause-value
returns-in-Err-clause-value c = rw c.fault_of_line.ensures (line_of-fails c.args.version c.args.text.now c.in-Err.reading (rw c.of_line.ensures at c.in-Err.ensures.value))
