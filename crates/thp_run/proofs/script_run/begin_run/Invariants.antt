use Rattle.std.proofs.Common.{◌≡◌, ◌≤◌, length, map, drop, All}
use Rattle.std.specs.Vec.Iter.{into_iter_items, into_iter_len}
use Rattle.thp_cell.specs.Prelude.{PassState}
use Rattle.thp_run.specs.Sharing.{cell_of, IsUnused}
use Rattle.thp_run.proofs.NodeLaws.{Filled}
use Rattle.thp_run.proofs.script_run.begin_run.Given as goal

abbrev pub invariant-loop-pass : goal.invariant-loop-pass
invariant-loop-pass g l = record {
  cells : drop (length l.nodes.items) l.cells ≡ map cell_of (into_iter_items l.pass-iterator);
  some : All (λ (p : PassState). p.first ≤ p.end) (into_iter_items l.pass-iterator);
  filled : Filled IsUnused l.fn.passes.items l.nodes.items (into_iter_items l.pass-iterator);
  left : length (into_iter_items l.pass-iterator) ≡ into_iter_len l.pass-iterator;
}
