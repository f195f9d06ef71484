use Rattle.std.proofs.Common.{◌≡◌, ◌++◌, List, length}
use Rattle.std.specs.Vec.Iter.{into_iter_items, into_iter_len}
use Rattle.thp_worker.specs.Prelude.{Held}
use Rattle.thp_run.specs.Passes.{EachAdjoins, EachJoint}
use Rattle.thp_run.proofs.node_passes.NodePassesPasses.join.Given as goal

abbrev pub invariant-loop-low : goal.invariant-loop-low
invariant-loop-low g l = record {
  adjoin : EachAdjoins (into_iter_items l.low-iterator) (into_iter_items l.more);
  joint : (hs : List Held) → EachJoint (into_iter_items l.low-iterator) (into_iter_items l.more) hs → EachJoint l.fn.self.held l.fn.other.held (l.nodes.items ++ hs);
  left : length (into_iter_items l.low-iterator) ≡ into_iter_len l.low-iterator;
  right : length (into_iter_items l.more) ≡ into_iter_len l.more;
}
