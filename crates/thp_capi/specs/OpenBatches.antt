-- Open batches by caller: each is at its caller's place, and each caller from the first on has one.
use Rattle.std.specs.Prelude.{◌≡◌, ℕ, ◌<◌, ◌+◌, List, Option, None, Some, length, get_or}
use Rattle.thp_history.specs.Prelude.{History}
use Rattle.thp_node.specs.Prelude.{BatchState, IsInFront}

-- an open batch belongs to its caller, and those of its pages that are still in flight are a prefix of the caller's flight
abbrev pub EachOpen : History → ℕ → List (Option BatchState) → Type 0
EachOpen h first batches = (k : ℕ) (b : BatchState) → k < length batches → get_or batches k None ≡ Some b → (b.caller ≡ first + k) × IsInFront h b
