-- Nodes that are busy at chosen calls count as shared with one more caller.
use Rattle.std.specs.Prelude.{◌≡◌, ℕ, ◌+◌, List, [], ◌∷◌}
use Rattle.thp_script.specs.declared.script.Command.{Command}
use Rattle.thp_worker.specs.Prelude.{Fronts, Held}
use Rattle.thp_run.specs.Listed.{WorkedList, WorksOn}
use Rattle.thp_run.specs.Passes.{Passes}

-- more callers than the holder has, so that it never has all
abbrev pub shared : Fronts → Fronts
shared f = record f { callers = f.callers + f.end + 1 }

-- the pass of one node with callers 0 and 1
abbrev pub of_two : Held → Passes
of_two h = record { callers = 2; first = 0; end = 2; held = h ∷ [] }

-- one node, and all of its callers: 0 and 1
pub record OfTwo (f : Fronts) : Type 0 where
  pub nodes : f.nodes ≡ 1
  pub callers : f.callers ≡ 2
  pub first : f.first ≡ 0
  pub end : f.end ≡ 2

-- the section of a caller was begun and executed up to here
abbrev pub WasWorked : ℕ → Fronts → List Command → WorkedList → Type 0
WasWorked c f commands w = (old : Fronts) × WorksOn c old f commands w
