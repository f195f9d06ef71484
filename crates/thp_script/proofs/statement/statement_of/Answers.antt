use Rattle.std.proofs.Common.{rules}
use Rattle.thp_script.proofs.GrammarLaws.{statement_of-read, statement_of-fails}
use Rattle.thp_script.proofs.statement.statement_of.Goals as goal

pub returns-in-Ok : goal.returns-in-Ok
returns-in-Ok c = statement_of-read c.args.settings.now c.args.line.now c.in-Ok.statement (search rules) (rw c.of_line.ensures at c.in-Ok.ensures)

pub returns-in-Err : goal.returns-in-Err
returns-in-Err c = rw c.fault_of_line.ensures (statement_of-fails c.args.settings.now c.args.line.now c.in-Err.reading (search rules) (rw c.of_line.ensures at c.in-Err.ensures))
