-- What a script moves: events that no command repeats at their place, and scans besides the commands that repeat the others (this
-- project's profile).
use Rattle.std.specs.Prelude.{◌≡◌, ◌≤◌, ◌+◌, ◌-◌, ◌^◌, ℕ, Bool, true, false, All, List, [], ◌∷◌, None, length, filter, flat_map, map, min, sum_by}
use Rattle.thp_history.specs.declared.events.Event.{Event}
use Rattle.thp_history.specs.declared.events.Outcome.{Outcome}
use Rattle.thp_history.specs.declared.events.Outcome.TheVariants.{Freed}
use Rattle.thp_history.specs.declared.events.What.{What}
use Rattle.thp_history.specs.declared.events.What.TheVariants.{UnmapWhole, UnmapSub, Unpin}
use Rattle.thp_history.specs.Prelude.{History, max_batch}
use Rattle.thp_script.specs.declared.script.Op.{Op}
use Rattle.thp_script.specs.declared.script.Op.TheVariants as op
use Rattle.thp_journal_scripts.specs.declared.folding.Moved.{Moved}
use Rattle.thp_journal_scripts.specs.declared.folding.EventKind.{EventKind}
use Rattle.thp_journal_scripts.specs.declared.folding.EventKind.TheVariants.{Take}
use Rattle.thp_journal_scripts.specs.Repeating.{call_in, calls_of, kind_of, IsBy, Repeats}

-- the third list has the elements of the first and of the second, each in its order
pub data Interleaves {X : Type 0} : List X → List X → List X → Type 0 where
  neither : Interleaves [] [] []
  first : {x : X} {xs ys zs : List X} → Interleaves xs ys zs → Interleaves (x ∷ xs) ys (x ∷ zs)
  second : {y : X} {xs ys zs : List X} → Interleaves xs ys zs → Interleaves xs (y ∷ ys) (y ∷ zs)

-- a take, a try, or a page that is put back or dropped
abbrev pub IsOfBatch : Event → Type 0
IsOfBatch e = call_in (kind_of e.what) ≡ []

abbrev pub IsScan : Op → Type 0
IsScan (op.Scan n) = Unit {0}
IsScan o = ⊥

-- a count that stops at the greatest number of 64 bits
abbrev pub capped_count : ℕ → ℕ
capped_count n = min n (2 ^ 64 - 1)

-- what the scripts of two nodes move
abbrev pub both_moved : Moved → Moved → Moved
both_moved a b = record { batches = capped_count (a.batches + b.batches); calls = capped_count (a.calls + b.calls); events = capped_count (a.events + b.events); left = capped_count (a.left + b.left) }

abbrev pub is_take_kind : EventKind → Bool
is_take_kind Take = true
is_take_kind _ = false

abbrev pub is_take : Event → Bool
is_take e = is_take_kind (kind_of e.what)

-- the takes in a history
abbrev pub takes_in : History → History
takes_in h = filter is_take h

-- the number of pages that calls free, by their outcome
abbrev pub one_if_freed : Outcome → ℕ
one_if_freed Freed = 1
one_if_freed _ = 0

-- the number of pages that an event frees
abbrev pub pages_freed : What → ℕ
pages_freed (UnmapWhole outcome p released) = one_if_freed outcome
pages_freed (UnmapSub outcome p start count released) = one_if_freed outcome
pages_freed (Unpin outcome p released) = one_if_freed outcome
pages_freed _ = 0

abbrev pub freed_in : History → ℕ
freed_in h = sum_by (λ (e : Event). pages_freed e.what) h

-- the takes of a batch that was moved, and how many of its pages its scan does not count: they were freed
pub record MovedBatch : Type 0 where
  pub takes : History
  pub freed : ℕ

-- one caller took the pages, and one command can scan those that count
pub record IsMovedBatch (batch : MovedBatch) : Type 0 where
  pub caller : ℕ
  pub takes_are : All (IsBy caller Take) batch.takes
  pub some : 1 ≤ length batch.takes
  pub freed_are : batch.freed ≤ length batch.takes
  pub in_range : length batch.takes - batch.freed ≤ max_batch

-- the scan of a moved batch: it counts the pages that were taken, less those that were freed
abbrev pub late_scan : MovedBatch → Op
late_scan batch = op.Scan (length batch.takes - batch.freed)

-- the takes of moved batches, one batch after the other
abbrev pub all_takes : List MovedBatch → History
all_takes batches = flat_map (λ (b : MovedBatch). b.takes) batches

abbrev pub all_freed : List MovedBatch → ℕ
all_freed batches = sum_by (λ (b : MovedBatch). b.freed) batches

-- The scans are those of batches: the moved takes are theirs, in order, and they don't count at most as many pages as were freed.
pub record AreLateScans (h away : History) (late : List Op) : Type 0 where
  pub batches : List MovedBatch
  pub each : All IsMovedBatch batches
  pub takes_are : takes_in away ≡ all_takes batches
  pub scans_are : late ≡ map late_scan batches
  pub freed_are : all_freed batches ≤ freed_in h

-- The commands repeat the history at their places, except so many events of batches that are not at their place; the commands
-- besides are scans, one for each batch moved. A call is moved at most once, and only if a batch is.
pub record RepeatsExcept (h : History) (ops : List Op) (moved : Moved) : Type 0 where
  pub kept : History
  pub away : History
  pub here : List Op
  pub late : List Op
  pub events_are : Interleaves kept away h
  pub commands_are : Interleaves here late ops
  pub repeats : Repeats None here kept None
  pub away_are : All IsOfBatch away
  pub late_are : All IsScan late
  pub count : moved.events ≡ capped_count (length away)
  pub batches : moved.batches ≡ capped_count (length late)
  pub scans : AreLateScans h away late
  pub calls : moved.calls ≤ length (calls_of h)
  pub none_called : moved.batches ≡ 0 → moved.calls ≡ 0
