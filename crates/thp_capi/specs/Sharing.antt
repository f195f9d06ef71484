-- The view that contracts have of the pass of a handle: a pass, and the open batches of its callers.
use Rattle.std.specs.Prelude.{◌≡◌, ◌≢◌, ℕ, ◌≤◌, ◌+◌, ◌-◌, nat_le, List, Option, None, IsSome, length, get_or, if◌then◌else◌}
use Rattle.atomic_table.specs.Seated.{TableId}
use Rattle.thp_node.specs.Prelude.{BatchState}
use Rattle.thp_cell.specs.Prelude.{continuing, PassState, HasCaller}
use Rattle.thp_capi.specs.OpenBatches.{EachOpen}

-- a pass, the mark of its cell, and the open batch of each of its callers
pub record SharedState : Type 0 where
  pub mark : ℕ
  pub pass : PassState
  pub batches : List (Option BatchState)

-- The invariant of a pass of a cell of n callers. Each of its callers has a place, and the memory has room for all following
-- callers. An open batch belongs to its caller, and its remaining pages are a prefix of the caller's flight.
pub record IsShared (cell : TableId) (n room : ℕ) (pass : PassState) (batches : List (Option BatchState)) : Type 0 where
  pub cell_is : pass.cell ≡ cell
  pub callers : pass.callers ≡ n
  pub places : pass.first + length batches ≡ pass.end
  pub room_is : n ≤ pass.first + room
  pub each : EachOpen pass.front pass.first batches

-- the open batch of caller c, if it is one of the pass's and has one
abbrev pub shared_batch_of : SharedState → ℕ → Option BatchState
shared_batch_of s c = if nat_le s.pass.first c then get_or s.batches (c - s.pass.first) None else None

-- no caller has an open batch
abbrev pub NoneIsOpen : SharedState → Type 0
NoneIsOpen s = (c : ℕ) → shared_batch_of s c ≡ None

-- some caller of the pass has an open batch
pub record HasOpen (s : SharedState) : Type 0 where
  pub caller : ℕ
  pub own : HasCaller s.pass caller
  pub batch : IsSome (shared_batch_of s caller)

-- only the front of the pass and its lock steps changed
abbrev pub OnlyFront : SharedState → SharedState → Type 0
OnlyFront old new = new ≡ record old { pass = continuing old.pass new.pass }

-- only the front of the pass, its lock steps and the open batch of caller c changed
pub record ChangesOnly (c : ℕ) (old new : SharedState) : Type 0 where
  pub mark : new.mark ≡ old.mark
  pub pass : new.pass ≡ continuing old.pass new.pass
  pub others : (d : ℕ) → d ≢ c → shared_batch_of new d ≡ shared_batch_of old d

-- the part p of the pass, whose callers keep their open batches
pub record IsSharedPart (p : PassState) (old new : SharedState) : Type 0 where
  pub pass : new.pass ≡ p
  pub mark : new.mark ≡ old.mark
  pub batches : (c : ℕ) → HasCaller p c → shared_batch_of new c ≡ shared_batch_of old c

-- the open batches of the callers don't change
abbrev pub SharedOpenStay : SharedState → SharedState → Type 0
SharedOpenStay old new = (c : ℕ) → HasCaller old.pass c → shared_batch_of new c ≡ shared_batch_of old c
