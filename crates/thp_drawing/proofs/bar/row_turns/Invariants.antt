use Rattle.std.proofs.Common.{◌≡◌, ◌≤◌, ◌*◌, length}
use Rattle.thp_drawing.specs.Rows.{turns_below}
use Rattle.thp_drawing.proofs.bar.row_turns.Given as goal

abbrev pub invariant-loop-page : goal.invariant-loop-page
invariant-loop-page l = record {
  count : l.count ≡ turns_below l.columns l.page;
  most : l.count ≤ l.page * (5 * length l.columns);
}
