use Rattle.std.proofs.Common.{◌≡◌, ◌≤◌}
use Rattle.thp_drawing.specs.Lanes.{lanes_below}
use Rattle.thp_drawing.proofs.bar.count_lanes.Given as goal

abbrev pub invariant-loop-caller : goal.invariant-loop-caller
invariant-loop-caller l = record {
  count : l.count ≡ lanes_below l.columns l.caller;
  most : l.count ≤ l.caller;
}
