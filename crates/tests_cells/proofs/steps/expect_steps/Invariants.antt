use Rattle.std.proofs.Common.{◌≡◌, IfSome}
use Rattle.thp_node.specs.Prelude.{BatchState, IsInFront}
use Rattle.tests_cells.specs.Passes.{Stays}
use Rattle.tests_cells.proofs.steps.expect_steps.Given as goal

abbrev pub invariant-loop-place : goal.invariant-loop-place
invariant-loop-place g l = record {
  stays : Stays l.initial.pass l.pass;
  own : IfSome l.batch (λ (b : BatchState). b.caller ≡ l.caller);
  front : IfSome l.batch (λ (b : BatchState). IsInFront l.pass.front b);
}
