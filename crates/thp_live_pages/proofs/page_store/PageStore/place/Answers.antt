use Rattle.std.proofs.Common.{◌≡◌, ℕ, ◌<◌, Bool, false, Some, None, IsSome, Option, length, refl, rules, ap, sym, ◌∙◌, subst}
use Rattle.thp_page.specs.declared.standing.Standing.TheVariants.{Nowhere}
use Rattle.thp_page.specs.Prelude.{HoldsPage, Slot, Table, fresh_slot, slot_at}
use Rattle.thp_page.proofs.TableSlots.{slot_at-with_slot-same}
use Rattle.thp_live_pages.specs.Prelude.{IsPlaced, PageStoreState}
use Rattle.thp_live_pages.proofs.Losing.{nowhere_only}
use Rattle.thp_live_pages.proofs.Relinking.{linked_outside, placed_queued, same_slot}
use Rattle.thp_live_pages.proofs.page_store.PageStore.place.Goals as goal

pub place-requires-clause-inside : goal.place-requires-clause-inside
place-requires-clause-inside c = subst (λ n. c.args.block < n) c.self.invariant.sizes (subst (λ (n : PageStoreState). c.args.block < length n.table.slots) (sym c.self.view_is) c.requires.inside)

pub place-requires-clause-empty : goal.place-requires-clause-empty
place-requires-clause-empty c = ap (λ (n : PageStoreState). slot_at n.table c.args.block) c.self.view_is ∙ c.requires.free

pub place-requires-clause-new : goal.place-requires-clause-new
place-requires-clause-new c = subst (λ (n : PageStoreState). (b : ℕ) → HoldsPage (slot_at n.table b) c.args.page → ⊥) (sym c.self.view_is) c.requires.new

pub invariant_of-self : goal.invariant_of-self
invariant_of-self c =
    let t = c.self.inside.table in
    let b = c.args.block in
    let empty : slot_at t b ≡ None = ap (λ (n : PageStoreState). slot_at n.table b) c.self.view_is ∙ c.requires.free in
    let inside : b < length t.slots = subst (λ (n : PageStoreState). b < length n.table.slots) (sym c.self.view_is) c.requires.inside in
    linked_outside t c.place.new.self c.self.inside.queue b None (Some (fresh_slot t.order c.args.page)) c.self.invariant empty inside (λ e. e) (λ e. cc)
    (ap (λ (u : Table). u.slots) c.place.ensures.table) (ap (λ (u : Table). u.links) c.place.ensures.table)

pub invariant_of-self-else-queued : goal.invariant_of-self-else-queued
invariant_of-self-else-queued c =
    let t = c.self.inside.table in
    let b = c.args.block in
    let empty : slot_at t b ≡ None = ap (λ (n : PageStoreState). slot_at n.table b) c.self.view_is ∙ c.requires.free in
    let inside : b < length t.slots = subst (λ (n : PageStoreState). b < length n.table.slots) (sym c.self.view_is) c.requires.inside in
    linked_outside t c.place.new.self c.self.inside.queue b None (Some (fresh_slot t.order c.args.page)) c.self.invariant empty inside (λ e. e) (λ e. cc)
    (ap (λ (u : Table). u.slots) c.place.ensures.table) (ap (λ (u : Table). u.links) c.place.ensures.table)

pub enqueue-requires-clause-occupied : goal.enqueue-requires-clause-occupied
enqueue-requires-clause-occupied c =
    let t = c.self.inside.table in
    let b = c.args.block in
    let inside : b < length t.slots = subst (λ (n : PageStoreState). b < length n.table.slots) (sym c.self.view_is) c.requires.inside in
    let placed : slot_at c.place.new.self b ≡ Some (fresh_slot t.order c.args.page) = ap (λ (u : Table). slot_at u b) c.place.ensures.table ∙ slot_at-with_slot-same t b _ inside in
    subst (λ (o : Option Slot). IsSome o) (sym placed) refl

pub enqueue-requires-clause-outside : goal.enqueue-requires-clause-outside
enqueue-requires-clause-outside c = λ x at queued.
    let t = c.self.inside.table in
    let b = c.args.block in
    let inside : b < length t.slots = subst (λ (n : PageStoreState). b < length n.table.slots) (sym c.self.view_is) c.requires.inside in
    let placed : slot_at c.place.new.self b ≡ Some (fresh_slot t.order c.args.page) = ap (λ (u : Table). slot_at u b) c.place.ensures.table ∙ slot_at-with_slot-same t b _ inside in
    nowhere_only Nowhere refl (sym (ap (λ (y : Slot). y.standing) (same_slot _ _ x placed at)) ∙ queued)

pub returns-then-queued : goal.returns-then-queued
returns-then-queued c =
    let mid : PageStoreState = record { table = c.place.new.self; queue = c.self.inside.queue } in
    let placed : IsPlaced c.args.page false c.args.self.now mid c.args.block = search rules in
    let P : Bool → Type 0 = λ queued. IsPlaced c.args.page queued c.args.self.now c.enqueue.new.self c.args.block in
    subst P (sym c.if-queued.true) (placed_queued c.args.page c.args.self.now mid c.enqueue.new.self c.args.block c.requires.inside placed c.enqueue.ensures)
