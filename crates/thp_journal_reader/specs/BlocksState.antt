-- The view that contracts have of the choice of blocks.
use Rattle.std.specs.Prelude.{[], ◌∷◌, ◌++◌}
use Rattle.thp_history.specs.declared.events.Event.{Event}
use Rattle.thp_history.specs.declared.shape.Shape.{Shape}
use Rattle.thp_history.specs.Prelude.{History}

-- the node's shape, and the events so far with their blocks
pub record BlocksState : Type 0 where
  pub shape : Shape
  pub history : History

-- the same with one more event
abbrev pub blocks_with : BlocksState → Event → BlocksState
blocks_with b e = record { shape = b.shape; history = b.history ++ e ∷ [] }
