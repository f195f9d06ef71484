use Rattle.std.proofs.Common.{◌≡◌}
use Rattle.thp_run.proofs.EachLaws.{kept_to}
use Rattle.thp_run.proofs.node_passes.keep_each.Given as goal

abbrev pub invariant-loop-index : goal.invariant-loop-index
invariant-loop-index g l = l.nodes.items ≡ kept_to l.index l.fn.nodes.items
