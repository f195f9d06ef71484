use Rattle.std.proofs.Common.{◌≡◌, ◌++◌}
use Rattle.thp_drawing.specs.Rows.{stage_rows}
use Rattle.thp_drawing.proofs.bar.put_stage_rows.Given as goal

abbrev pub invariant-loop-page : goal.invariant-loop-page
invariant-loop-page l = l.text.items ≡ l.fn.text.items ++ stage_rows l.stage l.high l.columns l.page
