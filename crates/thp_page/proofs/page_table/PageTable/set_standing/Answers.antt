use Rattle.std.proofs.Common.{arith, ap, sym, ◌∙◌, refl, get_or, None}
use Rattle.thp_page.specs.Prelude.{descriptors_of, with_slot, stood}
use Rattle.thp_page.proofs.TableSteps.{descriptor_written, slot_read, slot_of-standing}
use Rattle.thp_page.proofs.StoredDescriptors.{numbers_alike, stored_read, stored_taken, written_stored, reached, length-reached, sized_grown, sized_placed}
use Rattle.thp_page.proofs.page_table.PageTable.set_standing.Goals as goal

pub returns : goal.returns
returns c =
    let order = c.self.inside.order in
    let ns = c.self.inside.numbers in
    let ds = (descriptors_of c.self.inside.order c.self.inside.blocks c.self.inside.descriptors.items) in
    let n = c.self.inside.accesses in
    let stored = stored_taken c.self.inside.order c.self.inside.blocks _ c.self.inside.numbers c.self.inside.descriptors.items c.self.inside.accesses c.args.block _ c.self.invariant c.self.view_is c.requires.inside c.requires.occupied in
    let d = c.index_mut.result.now in
    let is = stored_read c.self.inside.order c.self.inside.blocks c.self.inside.descriptors.items c.args.block d stored c.index_mut.ensures.value in
    let read = slot_read order ns ds n c.args.block d _ c.self.view_is (numbers_alike _ _ _ _ _ c.self.invariant) c.requires.inside is in
    written_stored order c.self.inside.blocks ns c.self.inside.descriptors.items n c.args.block _ stored
    ∙ descriptor_written order ns ds n c.args.block d (record d { standing = c.args.standing }) _ c.self.view_is is refl
    ∙ ap (λ o. with_slot c.args.self.now c.args.block o) (slot_of-standing (get_or ns c.args.block None) d c.args.standing ∙ ap (λ o. stood o c.args.standing) (sym read))

pub index_mut-requires : goal.index_mut-requires
index_mut-requires c = omega (arith, stored_taken c.self.inside.order c.self.inside.blocks _ c.self.inside.numbers c.self.inside.descriptors.items c.self.inside.accesses c.args.block _ c.self.invariant c.self.view_is c.requires.inside c.requires.occupied)
