use Rattle.std.proofs.Common.{◌≡◌, Option, ℕ, true, false, inr, rules, arith, ap, ap₂, sym, ◌∙◌, refl, get_or, cond, Some, None}
use Rattle.std.proofs.Math.Path.{fun_ext}
use Rattle.std.specs.Option.{ghost_name_of, is_some}
use borrow.Follows.Closed.{read_of}
use Rattle.thp_history.specs.Prelude.{PageState}
use Rattle.thp_page.specs.Prelude.{Descriptor, descriptors_of, with_slot, page_in, paged, with_page}
use Rattle.thp_page.proofs.TableSteps.{slot_read, empty_read, descriptor_written, descriptor_kept, slot_of-page, page_in-slot_of}
use Rattle.thp_page.proofs.StoredDescriptors.{numbers_alike, links_all, stored_read, written_stored, reached, length-reached, sized_grown, sized_placed}
use Rattle.thp_page.proofs.page_table.PageTable.page_mut.Goals as goal

pub returns : goal.returns
returns c =
    let order = c.self.inside.order in
    let ns = c.self.inside.numbers in
    let ds = (descriptors_of c.self.inside.order c.self.inside.blocks c.self.inside.descriptors.items) in
    let n = c.self.inside.accesses in
    let d = c.index_mut.result.now in
    let o = get_or ns c.args.block None in
    let stored = c.self.invariant.stored c.args.block (ap is_some (sym c.at.ensures) ∙ sym c.is_some-taken.ensures ∙ search rules) in
    let is = stored_read c.self.inside.order c.self.inside.blocks c.self.inside.descriptors.items c.args.block d stored c.index_mut.ensures.value in
    let written = λ (e : Descriptor). written_stored order c.self.inside.blocks ns c.self.inside.descriptors.items n c.args.block e stored in
    let read = slot_read order ns ds n c.args.block d _ c.self.view_is (numbers_alike _ _ _ _ _ c.self.invariant) c.requires.inside is in (
      ap₂ (read_of (ghost_name_of c.page_mut.result))
          (fun_ext (λ (w : PageState).
          written (with_page d w) ∙ descriptor_written order ns ds n c.args.block d (with_page d w) _ c.self.view_is is refl
          ∙ ap (λ s. with_slot c.args.self.now c.args.block s) (slot_of-page o d w ∙ ap (λ s. paged s w) (sym read))))
          (written d ∙ descriptor_kept order ns ds n c.args.block d _ c.self.view_is is),
      record {
        writes_back = tt;
        value = c.page_mut.ensures.value
            ∙ ap (λ b. cond b (Some d.page) None) (c.is_some-taken.ensures ∙ ap is_some c.at.ensures)
            ∙ sym (page_in-slot_of o d)
            ∙ ap page_in (sym read);
      },
    )

pub index_mut-requires : goal.index_mut-requires
index_mut-requires c = omega (arith, c.self.invariant.stored c.args.block (ap is_some (sym c.at.ensures) ∙ sym c.is_some-taken.ensures ∙ search rules))

pub at-requires : goal.at-requires
at-requires c = omega (arith, links_all c.self.inside.order c.self.inside.blocks _ c.self.inside.numbers c.self.inside.descriptors.items c.self.inside.accesses _ c.self.invariant c.self.view_is, c.self.invariant.numbered, c.requires.inside)

none_of : (o : Option ℕ) → is_some o ≡ false → o ≡ None
none_of None is = refl
none_of (Some n) is = absurd (cc)

pub returns-then-not-taken : goal.returns-then-not-taken
returns-then-not-taken c =
    let none : get_or c.self.inside.numbers c.args.block None ≡ None = none_of _ (ap is_some (sym c.at.ensures) ∙ sym c.is_some-taken.ensures ∙ search rules) in (
      ap inr c.self.view_is,
      record {
        writes_back = tt;
        value = sym (ap page_in (empty_read c.self.inside.order c.self.inside.numbers (descriptors_of c.self.inside.order c.self.inside.blocks c.self.inside.descriptors.items) c.self.inside.accesses c.args.block _ c.self.view_is (numbers_alike _ _ _ _ _ c.self.invariant) c.requires.inside none));
      },
    )
