-- The state of the holder of a pass of one node, and the effect of a step on it.
use Rattle.std.specs.Prelude.{◌≡◌, ◌≢◌, ◌⊎◌, ◌<◌, ℕ, ◌+◌, ◌-◌, nat_le, true, false, List, [], ◌++◌, All, Option, Some, None, Result, Ok, Err, length, slice_get, take, drop, if◌then◌else◌}
use Rattle.atomic_table.specs.Seated.{TableId}
use Rattle.thp_history.specs.declared.events.Event.{Event}
use Rattle.thp_history.specs.declared.refusal.Refusal.TheVariants.{OutOfMemory}
use Rattle.thp_history.specs.Prelude.{IsLegal}
use Rattle.thp_history.specs.declared.page_call.Done.{Done}
use Rattle.thp_node.specs.Prelude.{BatchState, IsInFront}
use Rattle.thp_cell.specs.declared.fault.CellFault.{CellFault}
use Rattle.thp_cell.specs.declared.fault.CellFault.TheVariants.{Busy, Refused}
use Rattle.thp_cell.specs.Prelude.{below, continuing, from, keeping, locking, missing, IsOther, PassState, HasAll, HasCaller}
use Rattle.thp_worker.specs.declared.steps.Step.{Step}
use Rattle.thp_worker.specs.declared.reply.Reply.{Reply}
use Rattle.thp_worker.specs.declared.reply.Reply.TheVariants as reply
use Rattle.thp_worker.specs.Does.{Open, Reaction, Does, step_events, open_of, step_refusal}

-- the pass, and the open batch on the node of each of its callers
pub record Held : Type 0 where
  pub pass : PassState
  pub batches : List (Option BatchState)

-- the same with the node kept by the pass, which takes it by a lock step unless it keeps it already
abbrev pub keeping_node : Held → Held
keeping_node h = record h { pass = keeping (locking h.pass) }

-- the pass keeps the node between its calls
abbrev pub KeepsNode : Held → Type 0
KeepsNode h = h.pass.keeps ≡ true

-- Each caller has a place. An open batch belongs to its caller, and its remaining pages are a prefix of the caller's flight.
pub record IsHolding (cell : TableId) (pass : PassState) (batches : List (Option BatchState)) : Type 0 where
  pub cell_is : pass.cell ≡ cell
  pub callers : pass.first + length batches ≡ pass.end
  pub each : (k : ℕ) (b : BatchState) → slice_get batches k ≡ Some (Some b) → (b.caller ≡ pass.first + k) × IsInFront pass.front b

abbrev pub open_in : Option (Option BatchState) → Option Open
open_in (Some (Some b)) = Some (open_of b)
open_in (Some None) = None
open_in None = None

-- the open batch of caller c
abbrev pub batch_of : Held → ℕ → Option Open
batch_of h c = if nat_le h.pass.first c then open_in (slice_get h.batches (c - h.pass.first)) else None

-- no caller has an open batch on the node
abbrev pub IsShut : Held → Type 0
IsShut h = (c : ℕ) → batch_of h c ≡ None

-- the pass made one lock step at most, and took the node by it
pub record LocksOnce (p q : PassState) : Type 0 where
  pub locks : (q.locks ≡ p.locks) ⊎ (q.locks ≡ (locking p).locks)
  pub misses : q.misses ≡ p.misses

-- By one lock step at most, the node's history is extended by events of others and then by these of caller c, whose open batch is
-- `after`
pub record Acts (c : ℕ) (old new : Held) (others own : List Event) (after : Option Open) : Type 0 where
  pub pass : new.pass ≡ continuing old.pass new.pass
  pub once : LocksOnce old.pass new.pass
  pub by_others : All (IsOther old.pass.first old.pass.end) others
  pub by_caller : All (λ (e : Event). e.caller ≡ c) own
  pub front : new.pass.front ≡ old.pass.front ++ others ++ own
  pub legal : IsLegal old.pass.shape old.pass.front → IsLegal old.pass.shape new.pass.front
  pub batch : batch_of new c ≡ after
  pub other_batches : (d : ℕ) → d ≢ c → batch_of new d ≡ batch_of old d

-- a step of caller c that has a result
pub record HeldAnswered (c : ℕ) (step : Step) (old new : Held) (answer : Reaction) : Type 0 where
  pub others : List Event
  pub own : List Event
  pub after : Option Open
  pub acts : Acts c old new others own after
  pub does : Does old.pass.shape (old.pass.front ++ others) c (batch_of old c) step own answer after

-- a step for whose events, at least one, memory could not be allocated
pub record HeldOutOf (c : ℕ) (step : Step) (old new : Held) : Type 0 where
  pub others : List Event
  pub acts : Acts c old new others [] (batch_of old c)
  pub allowed : step_refusal old.pass.shape (old.pass.front ++ others) c step ≡ None
  pub needs : 0 < step_events old.pass.shape (old.pass.front ++ others) c (batch_of old c) step

-- one lock step found that another pass has the node: nothing else changed, and the pass neither keeps the node nor has all callers
pub record IsHeldBusy (old new : Held) : Type 0 where
  pub same : new ≡ record old { pass = missing old.pass }
  pub free : old.pass.keeps ≡ false
  pub shared : HasAll old.pass → ⊥

-- a step of caller c
abbrev pub HeldDone : ℕ → Step → Held → Held → Result Reply CellFault → Type 0
HeldDone c step old new (Ok reply) = HeldAnswered c step old new (Ok reply)
HeldDone c step old new (Err Busy) = IsHeldBusy old new
HeldDone c step old new (Err (Refused OutOfMemory)) = HeldOutOf c step old new
HeldDone c step old new (Err (Refused why)) = HeldAnswered c step old new (Err why)

-- the reply to an allocation
abbrev pub page_reply : Result ℕ CellFault → Result Reply CellFault
page_reply (Ok page) = Ok (reply.Page page)
page_reply (Err fault) = Err fault

-- the reply to a call without a value
abbrev pub unit_reply : Result (Unit {0}) CellFault → Result Reply CellFault
unit_reply (Ok x) = Ok reply.Unit
unit_reply (Err fault) = Err fault

-- the reply to a call that may give frames back
abbrev pub loss_reply : Result Done CellFault → Result Reply CellFault
loss_reply (Ok done) = Ok (reply.Done done)
loss_reply (Err fault) = Err fault

-- the open batches of the callers don't change
abbrev pub OpenStay : Held → Held → Type 0
OpenStay old new = (c : ℕ) → HasCaller old.pass c → batch_of new c ≡ batch_of old c

-- the callers below `at`, and those from `at` on, each with its place
abbrev pub lower_part : Held → ℕ → Held
lower_part h at = record { pass = below h.pass at; batches = take (at - h.pass.first) h.batches }

abbrev pub upper_part : Held → ℕ → Held
upper_part h at = record { pass = from h.pass at; batches = drop (at - h.pass.first) h.batches }
