-- The lists that pages are on, as the slow check keeps them.
use Rattle.std.specs.Prelude.{◌≡◌, ℕ}
use Rattle.thp_history.specs.declared.shape.Shape.{Shape}
use Rattle.thp_history.specs.Prelude.{History, flight, queue, standing}
use Rattle.thp_model.specs.declared.slow_check.places.Lists.{Lists}

-- the lists after h, with the flight of caller c
pub record AreLists (s : Shape) (h : History) (c : ℕ) (lists : Lists) : Type 0 where
  pub queue_is : lists.queue.items ≡ queue s h
  pub flight_is : lists.flight.items ≡ flight h c
  pub standing_is : lists.standing.items ≡ standing s h
