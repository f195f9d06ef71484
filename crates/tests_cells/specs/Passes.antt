-- What the steps of a row leave of a pass.
use Rattle.std.specs.Prelude.{◌≡◌}
use Rattle.thp_cell.specs.Prelude.{PassState}

-- the pass has the same callers of the same cell; it may have another front, and keep the node or not
pub record Stays (p q : PassState) : Type 0 where
  pub cell : q.cell ≡ p.cell
  pub callers : q.callers ≡ p.callers
  pub first : q.first ≡ p.first
  pub end : q.end ≡ p.end
