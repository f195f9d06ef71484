use Rattle.std.proofs.Common.{◌≡◌, ◌++◌}
use Rattle.thp_drawing.specs.Tables.{caller_items}
use Rattle.thp_drawing.proofs.table.put_callers.Given as goal

abbrev pub invariant-loop-caller : goal.invariant-loop-caller
invariant-loop-caller l = l.text.items ≡ l.fn.text.items ++ caller_items l.callers l.caller
