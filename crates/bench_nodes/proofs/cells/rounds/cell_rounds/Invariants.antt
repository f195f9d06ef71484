use Rattle.std.proofs.Common.{◌≡◌}
use Rattle.thp_cell.specs.Prelude.{continuing}
use Rattle.bench_nodes.proofs.cells.rounds.cell_rounds.Given as goal

abbrev pub invariant-loop-round : goal.invariant-loop-round
invariant-loop-round l = l.pass ≡ continuing l.initial.pass l.pass
