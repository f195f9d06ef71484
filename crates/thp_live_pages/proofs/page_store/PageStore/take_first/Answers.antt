use Rattle.std.proofs.Common.{◌≡◌, ℕ, ◌<◌, List, length, Option, IsSome, IfSome, drop, refl, ap, ap₂, sym, ◌∙◌, subst, slice_set}
use Rattle.thp_links.specs.declared.link.Link.{Link}
use Rattle.thp_links.specs.Prelude.{Stands, SameOutside}
use Rattle.thp_links.proofs.Members.{Contains-from_first}
use Rattle.thp_page.proofs.TableSlots.{slot_at-inside, slot_at-same}
use Rattle.thp_page.specs.Prelude.{stood, Slot, Table}
use Rattle.thp_page.specs.declared.standing.Standing.TheVariants.{Batch}
use Rattle.thp_live_pages.specs.Prelude.{QueueIsLinked}
use Rattle.thp_live_pages.proofs.Relinking.{linked_popped, queued_slot, stood_slot}
use Rattle.thp_live_pages.proofs.page_store.PageStore.take_first.Goals as goal

pub invariant_of-self : goal.invariant_of-self
invariant_of-self c =
    let t = c.self.inside.table in
    let q = c.self.inside.queue in
    let b = c.in-Some.block in
    let u = c.set_standing.new.self in
    let first = sym c.pop_front.ensures.value ∙ c.in-Some.is in
    let w = queued_slot t q b c.self.invariant (Contains-from_first q b first) in
    let links : u.links ≡ c.pop_front.new.table.links = ap (λ (v : Table). v.links) c.set_standing.ensures in
    let P : List ℕ → Type 0 = λ r. QueueIsLinked u r in
    let S : List ℕ → List Link → Type 0 = λ r ls. Stands r ls in
    let O : List Link → Type 0 = λ ls. SameOutside q t.links ls in
    subst P (sym c.pop_front.ensures.list)
    (linked_popped t u q b (record w.0 { standing = Batch c.args.caller }) c.self.invariant first (slot_at-inside t b w.0 w.1) (λ e. cc)
    (ap (λ (v : Table). v.slots) c.set_standing.ensures ∙ ap₂ (λ (xs : List (Option Slot)) (o : Option Slot). slice_set xs b (stood o (Batch c.args.caller))) c.pop_front.ensures.rest.slots (slot_at-same t c.pop_front.new.table b c.pop_front.ensures.rest ∙ w.1))
    (subst (λ ls. S (drop 1 q) ls) (sym links) (subst (λ r. S r c.pop_front.new.table.links) c.pop_front.ensures.list c.pop_front.ensures.stands))
    (subst O (sym links) c.pop_front.ensures.outside))

pub pop_front-requires : goal.pop_front-requires
pop_front-requires c = record { stands = c.self.invariant.queue_stands }

pub set_standing-requires-clause-inside : goal.set_standing-requires-clause-inside
set_standing-requires-clause-inside c = subst (λ (o : Option ℕ). IfSome o (λ i. i < length c.pop_front.new.table.links)) c.in-Some.is c.pop_front.ensures.inside

pub set_standing-requires-clause-occupied : goal.set_standing-requires-clause-occupied
set_standing-requires-clause-occupied c =
    let t = c.self.inside.table in
    let b = c.in-Some.block in
    let w = queued_slot t c.self.inside.queue b c.self.invariant (Contains-from_first c.self.inside.queue b (sym c.pop_front.ensures.value ∙ c.in-Some.is)) in
    subst (λ (o : Option Slot). IsSome o) (sym (slot_at-same t c.pop_front.new.table b c.pop_front.ensures.rest ∙ w.1)) refl

pub number-requires : goal.number-requires
number-requires c =
    let t = c.self.inside.table in
    let b = c.in-Some.block in
    let w = queued_slot t c.self.inside.queue b c.self.invariant (Contains-from_first c.self.inside.queue b (sym c.pop_front.ensures.value ∙ c.in-Some.is)) in
    let at = slot_at-same t c.pop_front.new.table b c.pop_front.ensures.rest ∙ w.1 in
    subst (λ (o : Option Slot). IsSome o) (sym (stood_slot c.pop_front.new.table c.set_standing.new.self b w.0 (Batch c.args.caller) at c.set_standing.ensures)) refl
