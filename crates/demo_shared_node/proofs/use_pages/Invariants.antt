use Rattle.std.proofs.Common.{◌≡◌}
use Rattle.thp_cell.specs.Prelude.{continuing}
use Rattle.demo_shared_node.proofs.use_pages.Given as goal

abbrev pub invariant-loop : goal.invariant-loop
invariant-loop l = l.pass ≡ continuing l.initial.pass l.pass
