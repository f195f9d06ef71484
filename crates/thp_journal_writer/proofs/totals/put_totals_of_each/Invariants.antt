use Rattle.std.proofs.Common.{◌≡◌, ◌++◌, drop}
use Rattle.thp_journal_writer.specs.Totals.{totals_lines_from}
use Rattle.thp_journal_writer.proofs.totals.put_totals_of_each.Given as goal

abbrev pub invariant-loop-number : goal.invariant-loop-number
invariant-loop-number l = l.text.items ++ totals_lines_from l.number (drop l.number l.totals) ≡ l.fn.text.items ++ totals_lines_from 0 l.totals
