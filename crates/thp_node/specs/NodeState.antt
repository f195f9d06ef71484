-- The view that contracts have of a node.
use Rattle.std.specs.Prelude.{ℕ, List}
use Rattle.thp_history.specs.declared.shape.Shape.{Shape}
use Rattle.thp_history.specs.Prelude.{History}
use Rattle.thp_page.specs.Prelude.{Table}

-- a node's shape, its events, the number of events that it can record without an allocation, its table of pages, and the blocks
-- of its queue, oldest first
pub record NodeState : Type 0 where
  pub shape : Shape
  pub journal : History
  pub room : ℕ
  pub table : Table
  pub queue : List ℕ
