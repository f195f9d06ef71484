use Rattle.std.proofs.Common.{◌≡◌, Some, None, ap, ◌∙◌}
use Rattle.thp_page.proofs.TableSlots.{slot_at-inside}
use Rattle.thp_page.specs.Prelude.{slot_at, Table}
use Rattle.thp_live_pages.specs.Prelude.{PageStoreState}
use Rattle.thp_live_pages.proofs.Relinking.{linked_outside, taken}
use Rattle.thp_live_pages.proofs.page_store.PageStore.vacate.Goals as goal

pub invariant_of-self : goal.invariant_of-self
invariant_of-self c =
    let t = c.self.inside.table in
    let b = c.args.block in
    let w = taken _ c.requires.occupied in
    let at : slot_at t b ≡ Some w.0 = ap (λ (n : PageStoreState). slot_at n.table b) c.self.view_is ∙ w.1 in
    linked_outside t c.clear.new.self c.self.inside.queue b (Some w.0) None c.self.invariant at (slot_at-inside t b w.0 at) (c.requires.outside w.0 w.1) (λ e. e)
    (ap (λ (v : Table). v.slots) c.clear.ensures) (ap (λ (v : Table). v.links) c.clear.ensures)
