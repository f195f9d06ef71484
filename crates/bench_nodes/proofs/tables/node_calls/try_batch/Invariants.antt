-- The batch stands in front of its caller's flight.
use Rattle.thp_node.specs.Prelude.{IsInFront}
use Rattle.bench_nodes.proofs.tables.node_calls.try_batch.Given as goal

abbrev pub invariant-loop-page : goal.invariant-loop-page
invariant-loop-page l = IsInFront l.node.journal l.batch
