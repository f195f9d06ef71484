use Rattle.std.proofs.Common.{◌≡◌, ◌++◌, map}
use Rattle.std.specs.Vec.Iter.{into_iter_items}
use Rattle.thp_run.specs.Sharing.{pass_of}
use Rattle.thp_run.proofs.script_run.close.Given as goal

abbrev pub invariant-loop-node : goal.invariant-loop-node
invariant-loop-node g l = l.all.items ++ map pass_of (into_iter_items l.node-iterator) ≡ map pass_of l.fn.passes.held
