use Rattle.std.proofs.Common.{◌≡◌, drop}
use Rattle.thp_drawing.specs.Pictures.{foot_of}
use Rattle.thp_drawing.proofs.picture.foot_of.Given as goal

abbrev pub invariant-loop-node : goal.invariant-loop-node
invariant-loop-node l = foot_of l.y (drop l.node-index l.nodes) ≡ foot_of l.top l.nodes
