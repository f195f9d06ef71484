-- The block of a live page according to a history, and the flight that it is in.
use Rattle.std.specs.Prelude.{◌≡◌, ◌↔◌, ℕ, Bool, true, false, nat_eq, if◌then◌else◌, List, [], ◌∷◌, Option, Some, None, fold}
use Rattle.thp_history.specs.declared.events.Event.{Event}
use Rattle.thp_history.specs.declared.events.Outcome.{Outcome}
use Rattle.thp_history.specs.declared.events.What.{What}
use Rattle.thp_history.specs.declared.events.What.TheVariants.{Alloc, UnmapWhole, UnmapSub, Unpin}
use Rattle.thp_history.specs.declared.shape.Shape.{Shape}
use Rattle.thp_history.specs.Prelude.{History, some_event, is_freed, is_live, places, queue, flights, has_page}
use Rattle.thp_page.specs.declared.standing.Standing.{Standing}
use Rattle.thp_page.specs.declared.standing.Standing.TheVariants.{Nowhere, Queued, Batch}

-- the block of page p after an outcome of page q: none if p was freed
abbrev pub block_by : ℕ → Option ℕ → ℕ → Outcome → Option ℕ
block_by p o q outcome = if nat_eq p q then (if is_freed outcome then None else o) else o

-- the block of page p after an event: that of its allocation, until it is freed
abbrev pub block_after : ℕ → Option ℕ → What → Option ℕ
block_after p o (Alloc q b) = if nat_eq p q then Some b else o
block_after p o (UnmapWhole outcome q set) = block_by p o q outcome
block_after p o (UnmapSub outcome q first count set) = block_by p o q outcome
block_after p o (Unpin outcome q set) = block_by p o q outcome
block_after p o _ = o

-- the block of live page p
unfoldable pub block_of : History → ℕ → Option ℕ
block_of h p = fold (λ o (e : Event). block_after p o e.what) None h

-- the pages with a block are the live ones, each in the block of its allocation
abbrev pub LiesWherePlaced : History → Type 0
LiesWherePlaced h = (p b : ℕ) → (block_of h p ≡ Some b) ↔ ((is_live h p ≡ true) × (some_event (places p b) h ≡ true))

-- the caller in whose flight page p is
abbrev pub flier : ℕ → List (ℕ × ℕ) → Option ℕ
flier p [] = None
flier p (f ∷ fs) = if nat_eq f.1 p then Some f.0 else flier p fs

abbrev pub stands_by : Bool → Option ℕ → Standing
stands_by true o = Queued
stands_by false None = Nowhere
stands_by false (Some c) = Batch c

-- the list that page p is on: the queue, a caller's batch, or none
unfoldable pub standing_of : Shape → History → ℕ → Standing
standing_of s h p = stands_by (has_page p (queue s h)) (flier p (flights h))
