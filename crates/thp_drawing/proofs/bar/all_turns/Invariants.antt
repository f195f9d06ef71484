use Rattle.std.proofs.Common.{◌≡◌, ◌≤◌, ◌*◌, length}
use Rattle.thp_drawing.specs.Lanes.{lane_turns_below}
use Rattle.thp_drawing.proofs.bar.all_turns.Given as goal

abbrev pub invariant-loop-caller : goal.invariant-loop-caller
invariant-loop-caller l = record {
  count : l.count ≡ lane_turns_below l.columns l.caller;
  most : l.count ≤ l.caller * length l.columns;
}
