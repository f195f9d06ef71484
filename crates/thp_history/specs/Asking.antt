-- Code that computes a test of the definitions: the properties of the slow check's closures.
use Rattle.std.specs.Prelude.{◌≡◌, ◌<◌, ℕ, Bool}
use Rattle.std.specs.Fn.{FnReturnsAt, Shared}
use denote.Ref.{Bor}
use Rattle.thp_history.specs.declared.events.What.{What}

-- for every event, the code returns the test's result
abbrev pub AsksEvents : {F : Type 0} → Shared F (Bor What × Unit {0}) Bool → F → (What → Bool) → Type 0
AsksEvents g f t = (w : What) (b : Bool) → FnReturnsAt g f w b → b ≡ t w

-- for every number below n, the code returns the test's result
abbrev pub AsksBelow : {F : Type 0} → Shared F (ℕ × Unit {0}) Bool → F → ℕ → (ℕ → Bool) → Type 0
AsksBelow g f n t = (i : ℕ) (b : Bool) → i < n → g.post f (i, tt) b → b ≡ t i
