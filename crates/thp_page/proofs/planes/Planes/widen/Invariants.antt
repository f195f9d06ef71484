use Rattle.std.proofs.Common.{◌≡◌, ℕ, ◌-◌, ◌≤◌}
use Rattle.thp_page.specs.Prelude.{tally}
use Rattle.thp_page.proofs.planes.Planes.widen.Given as goal

abbrev pub invariant-loop-self : goal.invariant-loop-self
invariant-loop-self l = record { most : l.self.used ≤ 16; counts : (i : ℕ) → tally l.self i ≡ tally l.fn.self i }

abbrev pub decreases-loop-self : goal.decreases-loop-self
decreases-loop-self l = l.wanted - l.self.used
