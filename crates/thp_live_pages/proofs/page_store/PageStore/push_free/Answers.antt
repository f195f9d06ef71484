use Rattle.std.proofs.Common.{ap, sym, ◌∙◌, subst}
use Rattle.thp_links.proofs.OneTable.{Apart-sym, Apart-push}
use Rattle.thp_page.specs.Prelude.{slot_at}
use Rattle.thp_live_pages.specs.Prelude.{IsFreeChain, PageStoreState}
use Rattle.thp_live_pages.proofs.FreeChains.{linked_beside, queue_apart}
use Rattle.thp_live_pages.proofs.Relinking.{not_queued}
use Rattle.thp_live_pages.proofs.page_store.PageStore.push_free.Goals as goal

pub invariant_of-self : goal.invariant_of-self
invariant_of-self c =
    let t = c.self.inside.table in
    let q = c.self.inside.queue in
    let f = c.args.chain.now in
    let b = c.args.block in
    let m : IsFreeChain t f = subst (λ (n : PageStoreState). IsFreeChain n.table f) (sym c.self.view_is) c.requires.chain in
    linked_beside t c.push.new.table q c.push.new.self c.self.invariant c.push.ensures.rest c.push.ensures.outside
    (Apart-sym (Apart-push c.push.ensures.list (Apart-sym (queue_apart t q f c.self.invariant m)) (not_queued t q b c.self.invariant (ap (λ (n : PageStoreState). slot_at n.table b) c.self.view_is ∙ c.requires.empty))))
