-- The page that an event frees, and the block of an allocation. No public clause cites this module.
use Rattle.std.specs.Prelude.{ℕ, ◌<◌, ⊤, Option, Some, None}
use Rattle.thp_history.specs.declared.events.Outcome.{Outcome}
use Rattle.thp_history.specs.declared.events.Outcome.TheVariants.{Freed}
use Rattle.thp_history.specs.declared.events.What.{What}
use Rattle.thp_history.specs.declared.events.What.TheVariants.{Alloc, UnmapWhole, UnmapSub, Unpin}

-- the page, if the outcome is that it is freed
abbrev pub freed_by : ℕ → Outcome → Option ℕ
freed_by p Freed = Some p
freed_by p _ = None

-- the page that an event frees
abbrev pub freed_page : What → Option ℕ
freed_page (UnmapWhole outcome p set) = freed_by p outcome
freed_page (UnmapSub outcome p first count set) = freed_by p outcome
freed_page (Unpin outcome p set) = freed_by p outcome
freed_page _ = None

-- the block of an allocation is below n
abbrev pub IsInside : ℕ → What → Type 0
IsInside n (Alloc p b) = b < n
IsInside n _ = ⊤
