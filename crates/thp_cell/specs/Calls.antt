-- The effect of a cell's calls on a pass.
use Rattle.std.specs.Prelude.{◌≡◌, ◌≢◌, ℕ, ◌+◌, ◌⊎◌, ◌<◌, cond, true, false, List, ◌++◌, All, Option, None, Some, filter}
use Rattle.thp_history.specs.declared.events.Event.{Event}
use Rattle.thp_history.specs.declared.refusal.Refusal.{Refusal}
use Rattle.thp_history.specs.declared.refusal.Refusal.TheVariants.{OutOfMemory}
use Rattle.thp_history.specs.Prelude.{History, IsLegal, is_live, flight}
use Rattle.thp_node.specs.Prelude.{BatchState, IsInFront}
use Rattle.thp_cell.specs.Rule.{Since, AllBelow}
use Rattle.thp_cell.specs.Views.{PassState, HasCaller, HasAll, part}
use Rattle.thp_cell.specs.declared.fault.CellFault.{CellFault}
use Rattle.thp_cell.specs.declared.fault.CellFault.TheVariants as fault

-- the pass with another front
abbrev pub at_front : PassState → History → PassState
at_front p h = record p { front = h }

-- the pass after one lock step that took the node; a pass that keeps its node makes none
abbrev pub locking : PassState → PassState
locking p = record p { locks = cond p.keeps p.locks (p.locks + 1) }

-- the pass after one lock step that found another pass to have the node
abbrev pub missing : PassState → PassState
missing p = record p { misses = p.misses + 1 }

-- the pass p, except for the front and the lock steps, which are those of q
abbrev pub continuing : PassState → PassState → PassState
continuing p q = record p { front = q.front; locks = q.locks; misses = q.misses }

-- the pass with its node kept
abbrev pub keeping : PassState → PassState
keeping p = record p { keeps = true }

-- the pass with its node not kept
abbrev pub returning_node : PassState → PassState
returning_node p = record p { keeps = false }

-- the parts of the pass's callers are the same
abbrev pub PartsStay : PassState → PassState → Type 0
PartsStay p q = (c : ℕ) → HasCaller p c → part q c ≡ part p c

-- the flights of the pass's callers in a later history: the freed pages are removed, and nothing else changes
abbrev pub FlightsLast : PassState → History → Type 0
FlightsLast p h = (c : ℕ) → HasCaller p c → flight h c ≡ filter (is_live h) (flight p.front c)

-- each batch of the pass's callers that was a prefix of its flight still is
abbrev pub BatchesStay : PassState → PassState → Type 0
BatchesStay p q = (b : BatchState) → HasCaller p b.caller → IsInFront p.front b → IsInFront q.front b

-- the same for each batch of the pass's callers other than c
abbrev pub OtherBatchesStay : ℕ → PassState → PassState → Type 0
OtherBatchesStay c p q = (b : BatchState) → HasCaller p b.caller → b.caller ≢ c → IsInFront p.front b → IsInFront q.front b

-- the new front is legal, and extends the old one by events of callers that are not the pass's; no part changes. No event has a
-- caller outside the cell, so the front of a pass that has all callers does not change
pub record Follows (p q : PassState) : Type 0 where
  pub same : q ≡ at_front p q.front
  pub others : Since p.first p.end p.front q.front
  pub callers : AllBelow p.callers q.front
  pub alone : HasAll p → q.front ≡ p.front
  pub legal : IsLegal p.shape q.front
  pub parts : PartsStay p q
  pub flights : FlightsLast p q.front
  pub batches : BatchesStay p q

-- A call of caller c found the node with the journal `found`: the front of the pass, extended by events of callers that are not
-- the pass's. The call recorded its own events, all of caller c, and the new front is `found` extended by these. The part of c is
-- extended by them, and no other part changes. No event has a caller outside the cell, so a pass that has all callers found its
-- front. One lock step took the node, unless the pass keeps it. `Says` is the call's property of `found` and its own events.
pub record Called (p q : PassState) (c : ℕ) (Says : History → List Event → Type 0) : Type 0 where
  pub locked : q ≡ at_front (locking p) q.front
  pub found : History
  pub own : List Event
  pub others : Since p.first p.end p.front found
  pub callers_found : AllBelow p.callers found
  pub alone : HasAll p → found ≡ p.front
  pub flights : FlightsLast p found
  pub front : q.front ≡ found ++ own
  pub callers : AllBelow p.callers q.front
  pub legal : IsLegal p.shape q.front
  pub by_caller : All (λ e. e.caller ≡ c) own
  pub grown : part q c ≡ part p c ++ own
  pub other_parts : (d : ℕ) → HasCaller p d → d ≢ c → part q d ≡ part p d
  pub says : Says found own

-- another pass has the node, which the call's one lock step found: nothing else changed, the pass does not keep the node, and it does
-- not have all callers
pub record IsBusy (p q : PassState) : Type 0 where
  pub same : q ≡ missing p
  pub free : p.keeps ≡ false
  pub shared : HasAll p → ⊥

-- the call took the node by one lock step, unless its pass keeps it, and recorded nothing. Its refusal r is the reason that holds at the front, or else lack of memory, which can't happen to a
-- call that records no event
pub record IsRefused (p q : PassState) (why : Option Refusal) (m : ℕ) (r : Refusal) : Type 0 where
  pub follows : Follows (locking p) q
  pub cause : (why ≡ Some r) ⊎ ((why ≡ None) × (r ≡ OutOfMemory) × (0 < m))

-- the result of a call that failed
abbrev pub Failed : PassState → PassState → Option Refusal → ℕ → CellFault → Type 0
Failed p q why m fault.Busy = IsBusy p q
Failed p q why m (fault.Refused r) = IsRefused p q why m r

-- the pass of the callers below `at`, with the lock steps so far, and that of the callers from `at` on; neither keeps the node
abbrev pub below : PassState → ℕ → PassState
below p at = record p { end = at; keeps = false }

abbrev pub from : PassState → ℕ → PassState
from p at = record p { first = at; keeps = false; locks = 0; misses = 0 }

-- one front is a prefix of the other, and the longer is the new front; its further events are of callers of neither pass. The new
-- pass does not keep the node, and has the lock steps of both
pub record IsJoined (p q r : PassState) : Type 0 where
  pub callers : r ≡ record p { end = q.end; keeps = false; front = r.front; locks = p.locks + q.locks; misses = p.misses + q.misses }
  pub longer : (r.front ≡ p.front) ⊎ (r.front ≡ q.front)
  pub left : Since p.first p.end p.front r.front
  pub right : Since q.first q.end q.front r.front
