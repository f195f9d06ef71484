use Rattle.std.proofs.Common.{◌≡◌, max, drop}
use Rattle.thp_drawing.specs.Grids.{most_room}
use Rattle.thp_drawing.proofs.grid.most_room.Given as goal

abbrev pub invariant-loop-node : goal.invariant-loop-node
invariant-loop-node l = max l.most (most_room (drop l.node-index l.nodes)) ≡ most_room l.nodes
