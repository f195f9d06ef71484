use Rattle.std.proofs.Common.{◌≡◌, ◌++◌, length, map, All}
use Rattle.std.specs.Vec.Iter.{into_iter_items, into_iter_len}
use Rattle.thp_run.specs.Passes.{high_part, low_part, IsCut}
use Rattle.thp_run.proofs.node_passes.NodePassesPasses.split.Given as goal

abbrev pub invariant-loop-node : goal.invariant-loop-node
invariant-loop-node g l = record {
  low : map (low_part l.at) l.fn.self.held ≡ l.low.items ++ map (low_part l.at) (into_iter_items l.node-iterator);
  high : map (high_part l.at) l.fn.self.held ≡ l.high.items ++ map (high_part l.at) (into_iter_items l.node-iterator);
  cut : All (IsCut l.at) (into_iter_items l.node-iterator);
  left : length (into_iter_items l.node-iterator) ≡ into_iter_len l.node-iterator;
}
