-- The pass is the same but for its front, at which the batch stands in front of its caller's flight.
use Rattle.std.proofs.Common.{◌≡◌}
use Rattle.thp_cell.specs.Prelude.{continuing}
use Rattle.thp_node.specs.Prelude.{IsInFront}
use Rattle.bench_nodes.proofs.cells.pass_calls.try_all.Given as goal

abbrev pub invariant-loop-page : goal.invariant-loop-page
invariant-loop-page l = record {
  same : l.pass ≡ continuing l.initial.pass l.pass;
  caller : l.batch.caller ≡ l.initial.batch.caller;
  front : IsInFront l.pass.front l.batch;
}
