use Rattle.std.proofs.Common.{◌≡◌, ◌+◌, length, Option, None, All}
use Rattle.thp_node.specs.Prelude.{BatchState}
use Rattle.thp_worker.proofs.node_pass.NodePass.new.Given as goal

abbrev pub invariant-loop : goal.invariant-loop
invariant-loop g l = record {
  places : l.first + length l.batches.items ≡ l.counter;
  none : All (λ (b : Option BatchState). b ≡ None) l.batches.items;
}
