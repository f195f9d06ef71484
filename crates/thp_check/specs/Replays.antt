-- The view that contracts have of a replay.
use Rattle.std.specs.Prelude.{[], ◌∷◌, ◌++◌}
use Rattle.thp_history.specs.declared.events.Event.{Event}
use Rattle.thp_history.specs.declared.shape.Shape.{Shape}
use Rattle.thp_history.specs.Prelude.{History}

-- the node's shape, and the events so far
pub record Replayed : Type 0 where
  pub shape : Shape
  pub history : History

-- the same with one more event
abbrev pub replayed_with : Replayed → Event → Replayed
replayed_with r e = record { shape = r.shape; history = r.history ++ e ∷ [] }
