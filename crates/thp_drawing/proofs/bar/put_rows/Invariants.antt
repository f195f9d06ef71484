use Rattle.std.proofs.Common.{◌≡◌, ◌++◌}
use Rattle.thp_drawing.specs.Rows.{row_numbers}
use Rattle.thp_drawing.proofs.bar.put_rows.Given as goal

abbrev pub invariant-loop-before : goal.invariant-loop-before
invariant-loop-before l = l.text.items ≡ l.fn.text.items ++ row_numbers l.high l.step l.before
