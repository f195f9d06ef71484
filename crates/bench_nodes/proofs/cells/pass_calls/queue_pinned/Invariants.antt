use Rattle.std.proofs.Common.{◌≡◌}
use Rattle.thp_cell.specs.Prelude.{continuing}
use Rattle.bench_nodes.proofs.cells.pass_calls.queue_pinned.Given as goal

abbrev pub invariant-loop-page : goal.invariant-loop-page
invariant-loop-page l = l.pass ≡ continuing l.initial.pass l.pass
