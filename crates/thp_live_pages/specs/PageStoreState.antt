-- The view that contracts have of a node's pages with their lists, and the effect of the calls of `PageStore`.
use Rattle.std.specs.Prelude.{◌≡◌, ◌≢◌, ℕ, ◌+◌, ◌<◌, ◌≤◌, Bool, true, false, not, if◌then◌else◌, length, drop, List, [], ◌∷◌, ◌++◌, Option, Some, None, slice_get, slice_set, ◌⊎◌}
use Rattle.thp_links.specs.Prelude.{without_index}
use Rattle.thp_history.specs.declared.events.Outcome.{Outcome}
use Rattle.thp_history.specs.declared.events.Outcome.TheVariants as outcome
use Rattle.thp_history.specs.Prelude.{page_outcome, page_released, IsFresh, PageState, Loses}
use Rattle.thp_page.specs.declared.standing.Standing.{Standing}
use Rattle.thp_page.specs.declared.standing.Standing.TheVariants.{Nowhere, Queued, Batch}
use Rattle.thp_page.specs.Prelude.{Slot, Table, slot_at, HoldsPage}
use Rattle.thp_history.specs.declared.page_call.Done.{Done}
use Rattle.thp_history.specs.declared.page_call.Loss.{Loss}

-- the table of pages, and the blocks of the queue, oldest first
pub record PageStoreState : Type 0 where
  pub table : Table
  pub queue : List ℕ

-- P holds for the content of block b
abbrev pub AtSlot : Table → ℕ → (Slot → Type 0) → Type 0
AtSlot t b P = (x : Slot) → slot_at t b ≡ Some x → P x

-- the link pairs of blocks without a page are unchanged, except that of block b
abbrev pub EmptyLinksStay : Table → Table → ℕ → Type 0
EmptyLinksStay old new b = (k : ℕ) → k ≢ b → slot_at old k ≡ None → slice_get new.links k ≡ slice_get old.links k

-- the slot of block b becomes o and the queue q, with at most this many accesses; other slots are unchanged, and so is each chain
-- of empty blocks
pub record Edits (old new : PageStoreState) (b : ℕ) (o : Option Slot) (q : List ℕ) (most : ℕ) : Type 0 where
  pub slots : new.table.slots ≡ slice_set old.table.slots b o
  pub order : new.table.order ≡ old.table.order
  pub queue_is : new.queue ≡ q
  pub links : EmptyLinksStay old.table new.table b
  pub work : new.table.accesses ≤ old.table.accesses + most

-- the slot and the queue after an outcome
abbrev pub slot_after : Outcome → Slot → Option Slot
slot_after outcome.Stays x = Some x
slot_after outcome.Queued x = Some (record x { standing = Queued })
slot_after outcome.Freed x = None

abbrev pub queue_by_outcome : Outcome → ℕ → List ℕ → List ℕ
queue_by_outcome outcome.Stays b q = q
queue_by_outcome outcome.Queued b q = q ++ b ∷ []
queue_by_outcome outcome.Freed b q = without_index b q

-- the caller whose batch a page leaves by an outcome
abbrev pub batch_left : Standing → Option ℕ
batch_left (Batch c) = Some c
batch_left s = None

abbrev pub leaves_batch : Outcome → Standing → Option ℕ
leaves_batch outcome.Freed s = batch_left s
leaves_batch o s = None

abbrev pub is_nowhere : Standing → Bool
is_nowhere Nowhere = true
is_nowhere s = false

-- the effect of a loss on the page of block b, with its result and the caller whose batch the page leaves
pub record Lost (loss : Loss) (closed : Bool) (x : Slot) (old new : PageStoreState) (b : ℕ) (done : Done) (left : Option ℕ) : Type 0 where
  pub page : PageState
  pub how : Loses loss x.page page
  pub outcome_is : done.outcome ≡ page_outcome x.page page closed (not (is_nowhere x.standing))
  pub released_is : done.released ≡ page_released x.page page done.outcome
  pub left_is : left ≡ leaves_batch done.outcome x.standing
  pub edits : Edits old new b (slot_after done.outcome (record x { page = page })) (queue_by_outcome done.outcome b old.queue) 6

-- the list that a new page is on, which is queued or not, and the queue afterwards
abbrev pub new_standing : Bool → Standing
new_standing true = Queued
new_standing false = Nowhere

abbrev pub new_queue : Bool → ℕ → List ℕ → List ℕ
new_queue true b q = q ++ b ∷ []
new_queue false b q = q

-- a new page is placed in block b, and is queued or not
pub record IsPlaced (id : ℕ) (queued : Bool) (old new : PageStoreState) (b : ℕ) : Type 0 where
  pub page : PageState
  pub fresh : IsFresh old.table.order page
  pub edits : Edits old new b (Some (record { id = id; page = page; standing = new_standing queued })) (new_queue queued b old.queue) (if queued then 4 else 0)

-- the oldest page of the queue moves to a caller's batch
pub record TakesFirst (old new : PageStoreState) (caller id : ℕ) : Type 0 where
  pub block : ℕ
  pub slot : Slot
  pub first : slice_get old.queue 0 ≡ Some block
  pub at : slot_at old.table block ≡ Some slot
  pub id_is : id ≡ slot.id
  pub edits : Edits old new block (Some (record slot { standing = Batch caller })) (drop 1 old.queue) 4

-- the page of block b is no longer in the queue
pub record LeavesQueue (old new : PageStoreState) (b : ℕ) : Type 0 where
  pub slot : Slot
  pub stands : slot.standing ≢ Queued
  pub edits : Edits old new b (Some slot) (without_index b old.queue) 6

-- a block has no page
pub record HasFree (t : Table) : Type 0 where
  pub block : ℕ
  pub inside : block < length t.slots
  pub empty : slot_at t block ≡ None

-- page p is in no block, or in one and not in a batch of caller c
abbrev pub IsElsewhere : Table → ℕ → ℕ → Type 0
IsElsewhere t c p =
    ((b : ℕ) → HoldsPage (slot_at t b) p → ⊥) ⊎ ((b : ℕ) × (x : Slot) × (slot_at t b ≡ Some x) × (x.id ≡ p) × (x.standing ≢ Batch c))
