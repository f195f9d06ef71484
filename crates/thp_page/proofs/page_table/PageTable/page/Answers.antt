use Rattle.std.proofs.Common.{arith, ◌∙◌, ℕ, ap, sym, Option}
use Rattle.thp_page.specs.Prelude.{descriptors_of, page_in, slot_of}
use Rattle.thp_page.proofs.TableSteps.{number_read, empty_read, slot_read}
use Rattle.thp_page.proofs.StoredDescriptors.{numbers_alike, links_all, stored_read, is_stored, reached, length-reached, sized_grown, sized_placed}
use Rattle.thp_page.proofs.page_table.PageTable.page.Goals as goal

pub returns-clause-number : goal.returns-clause-number
returns-clause-number c =
    sym (number_read c.self.inside.order c.self.inside.numbers (descriptors_of c.self.inside.order c.self.inside.blocks c.self.inside.descriptors.items) c.self.inside.accesses c.args.block _ c.self.view_is (numbers_alike _ _ _ _ _ c.self.invariant) c.requires.inside ∙ sym c.at.ensures ∙ c.in_ok-id.was)

pub returns-clause-page : goal.returns-clause-page
returns-clause-page c =
    let d = c.index.result.now in
    sym
    (ap page_in (slot_read c.self.inside.order c.self.inside.numbers (descriptors_of c.self.inside.order c.self.inside.blocks c.self.inside.descriptors.items) c.self.inside.accesses c.args.block d _ c.self.view_is (numbers_alike _ _ _ _ _ c.self.invariant) c.requires.inside (stored_read c.self.inside.order c.self.inside.blocks c.self.inside.descriptors.items c.args.block d (is_stored c.self.inside.order c.self.inside.blocks _ c.self.inside.numbers c.self.inside.descriptors.items c.args.block c.in_ok-id.id c.self.invariant (sym c.at.ensures ∙ c.in_ok-id.was)) c.index.ensures))
    ∙ ap (λ (o : Option ℕ). page_in (slot_of o d)) (sym c.at.ensures ∙ c.in_ok-id.was))

pub returns-in_err-id-clause-number : goal.returns-in_err-id-clause-number
returns-in_err-id-clause-number c =
    rw c.from_residual.ensures (sym (number_read c.self.inside.order c.self.inside.numbers (descriptors_of c.self.inside.order c.self.inside.blocks c.self.inside.descriptors.items) c.self.inside.accesses c.args.block _ c.self.view_is (numbers_alike _ _ _ _ _ c.self.invariant) c.requires.inside ∙ sym c.at.ensures ∙ c.in_err-id.was))

pub returns-in_err-id-clause-page : goal.returns-in_err-id-clause-page
returns-in_err-id-clause-page c =
    rw c.from_residual.ensures (sym (ap page_in (empty_read c.self.inside.order c.self.inside.numbers (descriptors_of c.self.inside.order c.self.inside.blocks c.self.inside.descriptors.items) c.self.inside.accesses c.args.block _ c.self.view_is (numbers_alike _ _ _ _ _ c.self.invariant) c.requires.inside (sym c.at.ensures ∙ c.in_err-id.was))))

pub index-requires : goal.index-requires
index-requires c = omega (arith, is_stored c.self.inside.order c.self.inside.blocks _ c.self.inside.numbers c.self.inside.descriptors.items c.args.block c.in_ok-id.id c.self.invariant (sym c.at.ensures ∙ c.in_ok-id.was))

pub at-requires : goal.at-requires
at-requires c = omega (arith, links_all c.self.inside.order c.self.inside.blocks _ c.self.inside.numbers c.self.inside.descriptors.items c.self.inside.accesses _ c.self.invariant c.self.view_is, c.self.invariant.numbered, c.requires.inside)
