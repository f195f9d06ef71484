use Rattle.std.proofs.Common.{arith, ◌≡◌, subst, sym, get_or, Option, None, IfSome}
use Rattle.thp_page.specs.Prelude.{descriptors_of, Slot}
use Rattle.thp_page.proofs.TableSteps.{slot_read, occupant-slot_of}
use Rattle.thp_page.proofs.StoredDescriptors.{numbers_alike, stored_read, stored_taken}
use Rattle.thp_page.proofs.page_table.PageTable.occupant.Goals as goal

pub returns : goal.returns
returns c =
    let stored = stored_taken c.self.inside.order c.self.inside.blocks _ c.self.inside.numbers c.self.inside.descriptors.items c.self.inside.accesses c.args.block _ c.self.invariant c.self.view_is c.requires.inside c.requires.occupied in
    let d = c.index.result.now in
    let ns = c.self.inside.numbers in
    let is = stored_read c.self.inside.order c.self.inside.blocks c.self.inside.descriptors.items c.args.block d stored c.index.ensures in
    let read = slot_read c.self.inside.order ns (descriptors_of c.self.inside.order c.self.inside.blocks c.self.inside.descriptors.items) c.self.inside.accesses c.args.block d _ c.self.view_is (numbers_alike _ _ _ _ _ c.self.invariant) c.requires.inside is in
    subst (λ (o : Option Slot). IfSome o (λ s. d.page ≡ s.page)) (sym read) (occupant-slot_of (get_or ns c.args.block None) d)

pub index-requires : goal.index-requires
index-requires c = omega (arith, stored_taken c.self.inside.order c.self.inside.blocks _ c.self.inside.numbers c.self.inside.descriptors.items c.self.inside.accesses c.args.block _ c.self.invariant c.self.view_is c.requires.inside c.requires.occupied)
