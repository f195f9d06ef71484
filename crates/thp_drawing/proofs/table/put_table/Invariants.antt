use Rattle.std.proofs.Common.{◌≡◌, ◌++◌, drop}
use Rattle.thp_drawing.specs.Tables.{heads, table_lines_from}
use Rattle.thp_drawing.proofs.table.put_table.Given as goal

abbrev pub invariant-loop-number : goal.invariant-loop-number
invariant-loop-number l = l.text.items ++ table_lines_from l.number (drop l.number l.nodes) ≡ l.fn.text.items ++ (heads ++ table_lines_from 0 l.nodes)
