use Rattle.std.proofs.Common.{◌≡◌, ◌≤◌}
use Rattle.thp_cell.specs.Prelude.{continuing}
use Rattle.tests_cells.proofs.threads.allocations.allocate_20.Given as goal

abbrev pub invariant-loop : goal.invariant-loop
invariant-loop l = (l.pass ≡ continuing l.initial.pass l.pass) × (l.pages ≤ 20)
