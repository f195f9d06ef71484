-- No call that was made so far moves a batch from the front of its flight.
use Rattle.thp_node.specs.Prelude.{FrontsStay}
use Rattle.tests_steps.proofs.calls.first_wrong.Given as goal

abbrev pub invariant-loop-place : goal.invariant-loop-place
invariant-loop-place g l = FrontsStay l.initial.node.journal l.node.journal
