use Rattle.std.proofs.Common.{◌≡◌, Option, Some, ap, ◌∙◌, slice_set}
use Rattle.thp_page.proofs.TableSlots.{slot_at-inside}
use Rattle.thp_page.specs.Prelude.{slot_at, stood, Slot, Table}
use Rattle.thp_page.specs.declared.standing.Standing.TheVariants.{Nowhere}
use Rattle.thp_live_pages.specs.Prelude.{PageStoreState}
use Rattle.thp_live_pages.proofs.Relinking.{linked_outside, taken}
use Rattle.thp_live_pages.proofs.page_store.PageStore.drop_out.Goals as goal

pub invariant_of-self : goal.invariant_of-self
invariant_of-self c =
    let t = c.self.inside.table in
    let w = taken _ c.requires.occupied in
    let at : slot_at t c.args.block ≡ Some w.0 = ap (λ (n : PageStoreState). slot_at n.table c.args.block) c.self.view_is ∙ w.1 in
    linked_outside t c.set_standing.new.self c.self.inside.queue c.args.block (Some w.0) (Some (record w.0 { standing = Nowhere })) c.self.invariant at
    (slot_at-inside t c.args.block w.0 at) (c.requires.outside w.0 w.1) (λ e. cc)
    (ap (λ (u : Table). u.slots) c.set_standing.ensures ∙ ap (λ (o : Option Slot). slice_set t.slots c.args.block (stood o Nowhere)) at)
    (ap (λ (u : Table). u.links) c.set_standing.ensures)
