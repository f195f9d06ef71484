use Rattle.std.proofs.Common.{◌≡◌, max, drop}
use Rattle.thp_drawing.specs.Quantities.{most_in}
use Rattle.thp_drawing.proofs.stages.most_in.Given as goal

abbrev pub invariant-loop-column : goal.invariant-loop-column
invariant-loop-column l = max l.most (most_in l.stage (drop l.column-index l.columns)) ≡ most_in l.stage l.columns
