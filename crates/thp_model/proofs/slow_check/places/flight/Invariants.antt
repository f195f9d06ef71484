use Rattle.std.proofs.Common.{◌≡◌, ℕ, nat_eq, map, take, filter}
use Rattle.thp_model.proofs.slow_check.places.flight.Given as goal

-- the caller's pages of the flights so far
abbrev pub invariant-loop-flight : goal.invariant-loop-flight
invariant-loop-flight l = l.pages.items ≡ map (λ (f : ℕ × ℕ). f.1) (filter (λ (f : ℕ × ℕ). nat_eq f.0 l.caller) (take l.flight-index l.flight-items))
