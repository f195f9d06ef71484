-- What stands in the block of a page after its loss, before the outcome is carried out.
use Rattle.std.proofs.Common.{◌≡◌, ◌≢◌, ℕ, Bool, true, false, Option, Some, IsSome, IfSome, refl, ap, sym, ◌∙◌, subst, arith, nat_eq}
use Rattle.thp_history.specs.declared.events.Outcome.TheVariants as outcome
use Rattle.thp_history.specs.Prelude.{PageState}
use Rattle.thp_page.specs.declared.page.Change.{Change}
use Rattle.thp_page.specs.declared.standing.Standing.{Standing}
use Rattle.thp_page.specs.declared.standing.Standing.TheVariants.{Nowhere, Queued, Batch}
use Rattle.thp_page.specs.Prelude.{Slot, Table, slot_at, with_slot, paged}
use Rattle.thp_page.proofs.TableSlots.{slot_at-with_slot-same, slot_at-inside}
use Rattle.thp_live_pages.specs.Outcomes.{outcome_by}
use Rattle.thp_live_pages.specs.Prelude.{AtSlot, PageStoreState, is_nowhere}
use Rattle.thp_live_pages.specs.PageStoreState.{LeavesQueue}
use Rattle.thp_live_pages.proofs.Relinking.{taken, same_slot, if_at, edited_slot}

-- the block has the page as it became
paged_slot : (t : Table) (b : ℕ) (p : PageState) (x : Slot) → slot_at t b ≡ Some x → slot_at (with_slot t b (paged (slot_at t b) p)) b ≡ Some (record x { page = p })
paged_slot t b p x at = slot_at-with_slot-same t b (paged (slot_at t b) p) (slot_at-inside t b x at) ∙ ap (λ o. paged o p) at

-- a page is in the block of one
some_taken : (o : Option Slot) (x : Slot) → o ≡ Some x → IsSome o
some_taken o x e = subst (λ (z : Option Slot). IsSome z) (sym e) refl

-- the page is still in its block
pub paged_taken : (t : Table) (b : ℕ) (p : PageState) → IsSome (slot_at t b) → IsSome (slot_at (with_slot t b (paged (slot_at t b) p)) b)
paged_taken t b p h = let w = taken _ h in some_taken _ _ (paged_slot t b p w.0 w.1)

-- only a page on no list is queued
queued_by : (p : PageState) (change : Change) (closed nowhere : Bool) → outcome_by p change closed nowhere ≡ outcome.Queued → nowhere ≡ true
queued_by p change closed true e = cc
queued_by p change closed false e = absurd (grind (arith, nat_eq))

-- and a page on no list isn't in the queue
pub nowhere_only : (s : Standing) → is_nowhere s ≡ true → s ≢ Queued
nowhere_only Nowhere e q = cc
nowhere_only Queued e q = cc
nowhere_only (Batch c) e q = cc

-- a page that an outcome queues isn't in the queue
pub queued_outside : (t : Table) (b : ℕ) (p : PageState) (change : Change) (closed : Bool) (s : Standing) → IsSome (slot_at t b) → IfSome (slot_at t b) (λ y. s ≡ y.standing) →
    outcome_by p change closed (is_nowhere s) ≡ outcome.Queued → AtSlot (with_slot t b (paged (slot_at t b) p)) b (λ x. x.standing ≢ Queued)
queued_outside t b p change closed s h standing is x at queued =
    let w = taken _ h in
    let same : x ≡ record w.0 { page = p } = same_slot _ _ _ (paged_slot t b p w.0 w.1) at in
    let on : s ≡ w.0.standing = if_at (slot_at t b) w.0 (λ y. s ≡ y.standing) w.1 standing in
    nowhere_only s (queued_by p change closed (is_nowhere s) is) (on ∙ sym (ap (λ (y : Slot). y.standing) same) ∙ queued)

-- a page that left the queue is in its block, and not in the queue
pub left_taken : (old new : PageStoreState) (b : ℕ) → IsSome (slot_at old.table b) → LeavesQueue old new b → IsSome (slot_at new.table b)
left_taken old new b h l = let w = taken _ h in some_taken _ _ (edited_slot old new b w.0 (Some l.slot) _ 6 w.1 l.edits)

pub left_outside : (old new : PageStoreState) (b : ℕ) → IsSome (slot_at old.table b) → LeavesQueue old new b → AtSlot new.table b (λ x. x.standing ≢ Queued)
left_outside old new b h l x at queued =
    let w = taken _ h in
    let same : x ≡ l.slot = same_slot _ _ _ (edited_slot old new b w.0 (Some l.slot) _ 6 w.1 l.edits) at in
    l.stands (sym (ap (λ (y : Slot). y.standing) same) ∙ queued)
