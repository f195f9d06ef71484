use Rattle.std.proofs.Common.{◌≡◌, IfSome}
use Rattle.thp_node.specs.Prelude.{BatchState, IsInFront}
use Rattle.tests_cells.specs.Passes.{Stays}
use Rattle.tests_cells.proofs.steps.expect_of_two.Given as goal

abbrev pub invariant-loop-place : goal.invariant-loop-place
invariant-loop-place g l = record {
  a : Stays l.initial.a l.a;
  b : Stays l.initial.b l.b;
  own_a : IfSome l.of_a (λ (b : BatchState). b.caller ≡ 0);
  own_b : IfSome l.of_b (λ (b : BatchState). b.caller ≡ 1);
  front_a : IfSome l.of_a (λ (b : BatchState). IsInFront l.a.front b);
  front_b : IfSome l.of_b (λ (b : BatchState). IsInFront l.b.front b);
}
