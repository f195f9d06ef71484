use Rattle.std.proofs.Common.{subst, ◌<◌, ◌≤◌, length, arith, length-set, ap, ◌∙◌, refl, Some}
use Rattle.thp_history.specs.Prelude.{PageState}
use Rattle.thp_page.specs.Prelude.{HoldsPage, slot_at, descriptors_of, Nowhere, fresh_page, Table, with_slot}
use Rattle.thp_page.proofs.TableSteps.{HoldsPage-number, both_written, no_number}
use Rattle.thp_page.proofs.StoredDescriptors.{numbers_alike, links_all, stored_read, written_stored, view_reached, length-reached, sized_grown, sized_placed}
use Rattle.thp_page.proofs.page_table.PageTable.place.Goals as goal

pub place-requires-clause-empty : goal.place-requires-clause-empty
place-requires-clause-empty c = no_number c.self.inside.order c.self.inside.numbers (descriptors_of c.self.inside.order c.self.inside.blocks c.self.inside.descriptors.items) c.self.inside.accesses c.args.block _ c.self.view_is (numbers_alike _ _ _ _ _ c.self.invariant) c.requires.inside c.requires.empty

pub returns-clause-table : goal.returns-clause-table
returns-clause-table c =
    let order = c.self.inside.order in
    let blocks = c.self.inside.blocks in
    let ns = c.self.inside.numbers in
    let xs = c.self.inside.descriptors.items in
    let ys = c.reach.new.descriptors.items in
    let inside : c.args.block < blocks = omega (arith, links_all c.self.inside.order c.self.inside.blocks _ c.self.inside.numbers c.self.inside.descriptors.items c.self.inside.accesses _ c.self.invariant c.self.view_is, c.requires.inside) in
    let few : length xs ≤ blocks = c.self.invariant.few in
    let size = length-reached order xs ys c.args.block c.reach.ensures.blank in
    let there : c.args.block < length ys = omega (arith, size) in
    let view = view_reached order blocks ns xs ys c.self.inside.accesses c.args.block _ few inside c.reach.ensures.blank c.self.view_is in
    let d = c.index_mut-descriptor.result.now in
    written_stored order blocks _ ys c.self.inside.accesses c.args.block _ there
    ∙ both_written order ns _ (descriptors_of order blocks ys) c.self.inside.accesses c.args.block c.args.id d
    (record { link = d.link; standing = Nowhere; page = c.renew.new.self }) _ view c.place.ensures (stored_read order blocks ys c.args.block d there c.index_mut-descriptor.ensures.value) refl
    ∙ ap (λ (p : PageState). with_slot c.args.self.now c.args.block (Some (record { id = c.args.id; page = p; standing = Nowhere })))
    (c.renew.ensures.state ∙ ap (λ (u : Table). fresh_page u.order) c.self.view_is)

pub invariant_of-self : goal.invariant_of-self
invariant_of-self c =
    let order = c.self.inside.order in
    let blocks = c.self.inside.blocks in
    let ns = c.self.inside.numbers in
    let xs = c.self.inside.descriptors.items in
    let ys = c.reach.new.descriptors.items in
    let inside : c.args.block < blocks = omega (arith, links_all c.self.inside.order c.self.inside.blocks _ c.self.inside.numbers c.self.inside.descriptors.items c.self.inside.accesses _ c.self.invariant c.self.view_is, c.requires.inside) in
    let few : length xs ≤ blocks = c.self.invariant.few in
    let size = length-reached order xs ys c.args.block c.reach.ensures.blank in
    let there : c.args.block < length ys = omega (arith, size) in
    sized_placed order blocks _ ns _ _ c.args.block _
    (sized_grown order blocks _ _ ns xs _ c.self.invariant c.reach.ensures.capacity (omega (arith, size, length-set ys c.args.block)) (omega (arith, size, inside, few, length-set ys c.args.block)))
    c.place.ensures (omega (arith, there, length-set ys c.args.block))

pub reach-requires-clause-room : goal.reach-requires-clause-room
reach-requires-clause-room c = omega (arith, links_all c.self.inside.order c.self.inside.blocks _ c.self.inside.numbers c.self.inside.descriptors.items c.self.inside.accesses _ c.self.invariant c.self.view_is, c.self.invariant.room, c.requires.inside)

pub place-requires-clause-inside : goal.place-requires-clause-inside
place-requires-clause-inside c = omega (arith, links_all c.self.inside.order c.self.inside.blocks _ c.self.inside.numbers c.self.inside.descriptors.items c.self.inside.accesses _ c.self.invariant c.self.view_is, c.self.invariant.numbered, c.requires.inside)

pub place-requires-clause-new : goal.place-requires-clause-new
place-requires-clause-new c b e =
    c.requires.new b (subst (λ (u : Table). HoldsPage (slot_at u b) c.args.id) c.self.view_is
    (HoldsPage-number c.self.inside.numbers (descriptors_of c.self.inside.order c.self.inside.blocks c.self.inside.descriptors.items) b c.args.id (numbers_alike _ _ _ _ _ c.self.invariant) e))
