use Rattle.std.proofs.Common.{◌≡◌, ◌+◌, ℕ, length, map, Some, All, slice_get}
use Rattle.thp_cell.specs.Prelude.{PassState}
use Rattle.thp_run.specs.NewNodes.{new_shape}
use Rattle.thp_run.specs.Sharing.{cell_of, IsFreshPass}
use Rattle.thp_run.proofs.script_run.new_cells.Given as goal

abbrev pub invariant-loop-index : goal.invariant-loop-index
invariant-loop-index g l = record {
  count : length l.passes.items ≡ l.index;
  shapes : (n : ℕ) (p : PassState) → slice_get l.passes.items n ≡ Some p → p.shape ≡ new_shape l.settings n;
  fresh : All (IsFreshPass (l.settings.workers + 1)) l.passes.items;
  cells : map cell_of l.passes.items ≡ l.cells.items;
}
