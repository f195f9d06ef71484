use Rattle.std.proofs.Common.{◌≡◌, IfSome}
use Rattle.thp_node.specs.Prelude.{BatchState, IsInFront}
use Rattle.thp_cell.specs.Prelude.{continuing}
use Rattle.tests_cells.proofs.threads.stress.work.Given as goal

abbrev pub invariant-loop-turn : goal.invariant-loop-turn
invariant-loop-turn l = record {
  same : l.pass ≡ continuing l.initial.pass l.pass;
  own : IfSome l.batch (λ (b : BatchState). b.caller ≡ l.caller);
  front : IfSome l.batch (λ (b : BatchState). IsInFront l.pass.front b);
}
