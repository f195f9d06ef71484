use Rattle.std.proofs.Common.{◌≡◌}
use Rattle.thp_cell.specs.Prelude.{continuing}
use Rattle.demo_shared_node.proofs.unmap_half.Given as goal

abbrev pub invariant-loop : goal.invariant-loop
invariant-loop l = l.pass ≡ continuing l.initial.pass l.pass

abbrev pub invariant-loop-2 : goal.invariant-loop-2
invariant-loop-2 l = l.pass ≡ continuing l.initial.pass l.pass
