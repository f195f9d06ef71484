use Rattle.std.proofs.Common.{◌≡◌, ◌≤◌, ◌++◌}
use Rattle.thp_drawing.specs.Lanes.{lanes, lanes_below}
use Rattle.thp_drawing.proofs.bar.put_lanes.Given as goal

abbrev pub invariant-loop-caller : goal.invariant-loop-caller
invariant-loop-caller l = record {
  drawn : l.text.items ≡ l.fn.text.items ++ lanes l.columns l.caller;
  lane : l.lane ≡ lanes_below l.columns l.caller;
  most : l.lane ≤ l.caller;
}
