-- How long pages wait for a split, and the callers that have pages in their batches.
use Rattle.std.specs.Prelude.{ℕ, ◌+◌, ◌^◌, Bool, true, false, if◌then◌else◌, [], ◌∷◌, ◌++◌, Option, Some, fold}
use Rattle.thp_history.specs.declared.events.Event.{Event}
use Rattle.thp_history.specs.declared.shape.Shape.{Shape}
use Rattle.thp_history.specs.Prelude.{allocations, History, flight, no_pages, sum_below}
use Rattle.thp_metrics.specs.declared.stage.Stage.{Stage}
use Rattle.thp_metrics.specs.declared.stage.Stage.TheVariants.{Queued, InBatch}
use Rattle.thp_metrics.specs.Spans.{greatest_below}
use Rattle.thp_metrics.specs.Stages.{stage_of}

-- a page in the queue or in a batch waits
abbrev pub waits_in : Option Stage → Bool
waits_in (Some Queued) = true
waits_in (Some InBatch) = true
waits_in _ = false

abbrev pub waits : Shape → History → ℕ → Bool
waits s h p = waits_in (stage_of s h p)

-- the events so far, and the number of them for which page p has waited without interruption, after one more event
abbrev pub add_wait : Shape → ℕ → History × ℕ → Event → History × ℕ
add_wait s p sofar e = (sofar.0 ++ e ∷ [], if waits s (sofar.0 ++ e ∷ []) p then sofar.1 + 1 else 0)

-- the time that page p has waited: the number of events, up to the last one, without interruption
unfoldable pub waited : Shape → History → ℕ → ℕ
waited s h p = (fold (add_wait s p) ([], 0) h).1

-- the time that the longest waiting page has waited; 0 if none waits
abbrev pub longest_wait : Shape → History → ℕ
longest_wait s h = greatest_below (allocations h) (waited s h)

-- the number of callers for which it is recorded whether they have pages in their batches
abbrev pub shown_callers : ℕ
shown_callers = 64

-- those that have, caller c as 2 ^ c
abbrev pub callers_at : History → ℕ
callers_at h = sum_below shown_callers (λ c. if no_pages (flight h c) then 0 else 2 ^ c)
