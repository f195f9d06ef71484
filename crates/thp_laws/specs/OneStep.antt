-- One step of a caller: its effect and result follow from the history before it, except for blocks.
use Rattle.std.specs.Prelude.{◌≡◌, ℕ, List, ◌++◌, Option}
use Rattle.thp_history.specs.declared.events.Event.{Event}
use Rattle.thp_history.specs.declared.shape.Shape.{Shape}
use Rattle.thp_history.specs.Prelude.{SameButBlocks, History, IsLegal}
use Rattle.thp_worker.specs.declared.steps.Step.{Step}
use Rattle.thp_worker.specs.Prelude.{Does, Open, Reaction}

-- two steps had the same effect and result, except for blocks
pub record IsSameStep (own other : List Event) (answer reply : Reaction) (after later : Option Open) : Type 0 where
  pub events : SameButBlocks own other
  pub answers : answer ≡ reply
  pub batches : after ≡ later

-- the same step of the same caller with the same open batch, at legal histories that are equal except for blocks
abbrev pub StepsHaveOneAnswer : Type 0
StepsHaveOneAnswer =
    (s : Shape) (h k : History) (c : ℕ) (batch : Option Open) (step : Step) (own other : List Event) (answer reply : Reaction) (after later : Option Open) → SameButBlocks h k →
    IsLegal s (h ++ own) → IsLegal s (k ++ other) → Does s h c batch step own answer after → Does s k c batch step other reply later → IsSameStep own other answer reply after later
