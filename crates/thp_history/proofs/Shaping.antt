-- The shapes of nodes.
use Rattle.std.proofs.Common.{arith}
use Rattle.thp_history.specs.declared.shape.Shape.{Shape}
use Rattle.thp_history.specs.Prelude.{IsNodeShape, IsShape}

-- a node can have a shape of scripts
pub shape_of_node : (s : Shape) → IsShape s → IsNodeShape s
shape_of_node s is = record {
  some_blocks = is.some_blocks;
  few_blocks = omega (arith, is.few_blocks);
  least_order = is.least_order;
  most_order = is.most_order;
  low_threshold = is.low_threshold;
}
