-- The batch is in front of its flight.
use Rattle.std.proofs.Common.{IfSome}
use Rattle.thp_node.specs.Prelude.{BatchState, IsInFront}
use Rattle.tests_nodes.proofs.batches.steps.expect_batches.Given as goal

abbrev pub invariant-loop-place : goal.invariant-loop-place
invariant-loop-place g l = IfSome l.batch (λ (b : BatchState). IsInFront l.node.journal b)
