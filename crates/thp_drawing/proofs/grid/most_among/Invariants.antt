use Rattle.std.proofs.Common.{◌≡◌, max, drop}
use Rattle.thp_drawing.specs.Grids.{most_among}
use Rattle.thp_drawing.proofs.grid.most_among.Given as goal

abbrev pub invariant-loop-node : goal.invariant-loop-node
invariant-loop-node l = max l.most (most_among l.quantity (drop l.node-index l.nodes)) ≡ most_among l.quantity l.nodes
