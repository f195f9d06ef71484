use Rattle.std.proofs.Common.{◌≡◌, ℕ, ◌++◌, map, take}
use Rattle.thp_history.specs.Prelude.{queue}
use Rattle.thp_model.proofs.slow_check.places.standing.Given as goal

-- the pages of the queue and of the flights so far
abbrev pub invariant-loop-flight : goal.invariant-loop-flight
invariant-loop-flight l = l.pages.items ≡ queue l.fn.shape l.fn.events ++ map (λ (f : ℕ × ℕ). f.1) (take l.flight-index l.flight-items)
