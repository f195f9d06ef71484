use Rattle.std.proofs.Common.{◌≡◌, max, drop}
use Rattle.thp_drawing.specs.Quantities.{most_of}
use Rattle.thp_drawing.proofs.quantity.Quantity.most.Given as goal

abbrev pub invariant-loop-column : goal.invariant-loop-column
invariant-loop-column l = max l.most (most_of l.self (drop l.column-index l.columns)) ≡ most_of l.self l.columns
