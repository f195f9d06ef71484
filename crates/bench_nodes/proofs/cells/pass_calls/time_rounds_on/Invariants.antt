use Rattle.std.proofs.Common.{◌≡◌}
use Rattle.thp_cell.specs.Prelude.{continuing}
use Rattle.bench_nodes.proofs.cells.pass_calls.time_rounds_on.Given as goal

abbrev pub invariant-loop-round : goal.invariant-loop-round
invariant-loop-round g l = l.pass ≡ continuing l.initial.pass l.pass
