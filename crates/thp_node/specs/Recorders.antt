-- The view that contracts have of a recorder.
use Rattle.std.specs.Prelude.{ℕ}
use Rattle.thp_history.specs.Prelude.{History}

-- the events recorded, and the number of events that it can record without an allocation
pub record Recorded : Type 0 where
  pub history : History
  pub room : ℕ
