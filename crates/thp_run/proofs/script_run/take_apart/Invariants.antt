use Rattle.std.proofs.Common.{◌≡◌, length, map, All}
use Rattle.std.specs.Vec.Iter.{into_iter_items, into_iter_len}
use Rattle.thp_cell.specs.Prelude.{HasAll}
use Rattle.thp_run.specs.Sharing.{cell_of, IsNodeOf}
use Rattle.thp_run.proofs.NodeLaws.{Filled}
use Rattle.thp_run.proofs.script_run.take_apart.Given as goal

abbrev pub invariant-loop-cell : goal.invariant-loop-cell
invariant-loop-cell g l = record {
  cells : map cell_of (into_iter_items l.passes) ≡ into_iter_items l.cell-iterator;
  all : All HasAll (into_iter_items l.passes);
  filled : Filled IsNodeOf l.fn.passes.items l.nodes.items (into_iter_items l.passes);
  left : length (into_iter_items l.cell-iterator) ≡ into_iter_len l.cell-iterator;
  right : length (into_iter_items l.passes) ≡ into_iter_len l.passes;
}
