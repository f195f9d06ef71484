use Rattle.std.proofs.Common.{◌≡◌}
use Rattle.thp_node.specs.Prelude.{IsInFront}
use Rattle.thp_cell.specs.Prelude.{continuing}
use Rattle.tests_spoilt.proofs.memory.cell_growths.split_pages.Given as goal

abbrev pub invariant-loop-tried : goal.invariant-loop-tried
invariant-loop-tried g l = record {
  same : l.pass ≡ continuing l.initial.pass l.pass;
  caller : l.batch.caller ≡ 0;
  front : IsInFront l.pass.front l.batch;
}
