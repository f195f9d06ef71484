use Rattle.std.proofs.Common.{◌≡◌, ◌≤◌, ◌+◌, drop, false}
use Rattle.thp_drawing.specs.Bars.{bar_turns}
use Rattle.thp_drawing.proofs.bar.Bar.turns.Given as goal

abbrev pub invariant-loop-column : goal.invariant-loop-column
invariant-loop-column l = record {
  count : l.count + bar_turns l.self l.before (drop l.column-index l.columns) ≡ bar_turns l.self false l.columns;
  most : l.count ≤ l.column-index;
}
