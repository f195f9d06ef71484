use Rattle.std.proofs.Common.{Some, None, arith, ap, sym, ◌∙◌, refl, get_or, cond}
use Rattle.thp_page.specs.Prelude.{descriptors_of, with_slot, page_in, paged, with_page}
use Rattle.thp_page.proofs.TableSteps.{slot_read, some_number, descriptor_written, slot_of-page, page_in-slot_of}
use Rattle.thp_page.proofs.StoredDescriptors.{numbers_alike, stored_read, stored_taken, written_stored}
use Rattle.thp_page.proofs.page_table.PageTable.occupant_mut.Goals as goal

pub returns : goal.returns
returns c =
    let order = c.self.inside.order in
    let blocks = c.self.inside.blocks in
    let ns = c.self.inside.numbers in
    let ds = (descriptors_of order blocks c.self.inside.descriptors.items) in
    let n = c.self.inside.accesses in
    let d = c.index_mut.result.now in
    let o = get_or ns c.args.block None in
    let stored = stored_taken order blocks _ ns c.self.inside.descriptors.items n c.args.block _ c.self.invariant c.self.view_is c.requires.inside c.requires.occupied in
    let is = stored_read order blocks c.self.inside.descriptors.items c.args.block d stored c.index_mut.ensures.value in
    let read = slot_read order ns ds n c.args.block d _ c.self.view_is (numbers_alike _ _ _ _ _ c.self.invariant) c.requires.inside is in
    let taken = some_number order ns ds n c.args.block _ c.self.view_is (numbers_alike _ _ _ _ _ c.self.invariant) c.requires.inside c.requires.occupied in (
      (
        refl,
        λ w.
            written_stored order blocks ns c.self.inside.descriptors.items n c.args.block (with_page d w) stored ∙ descriptor_written order ns ds n c.args.block d (with_page d w) _ c.self.view_is is refl
            ∙ ap (λ s. with_slot c.args.self.now c.args.block s) (slot_of-page o d w ∙ ap (λ s. paged s w) (sym read)),
      ),
      record {
        writes_back = tt;
        value = ap (λ b. cond b (Some d.page) None) (sym taken) ∙ sym (page_in-slot_of o d) ∙ ap page_in (sym read);
      },
    )

pub index_mut-requires : goal.index_mut-requires
index_mut-requires c = omega (arith, stored_taken c.self.inside.order c.self.inside.blocks _ c.self.inside.numbers c.self.inside.descriptors.items c.self.inside.accesses c.args.block _ c.self.invariant c.self.view_is c.requires.inside c.requires.occupied)
