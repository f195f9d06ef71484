use Rattle.std.proofs.Common.{ℕ, List, sym, ◌∙◌, subst, Contains}
use Rattle.thp_links.proofs.Members.{Contains-from_rest}
use Rattle.thp_page.proofs.TableSlots.{slot_at-same}
use Rattle.thp_live_pages.specs.Prelude.{IsFreeChain, PageStoreState}
use Rattle.thp_live_pages.proofs.FreeChains.{linked_beside, queue_apart}
use Rattle.thp_live_pages.proofs.page_store.PageStore.pop_free.Goals as goal

pub invariant_of-self : goal.invariant_of-self
invariant_of-self c =
    let t = c.self.inside.table in
    let q = c.self.inside.queue in
    let f = c.args.chain.now in
    let m : IsFreeChain t f = subst (λ (n : PageStoreState). IsFreeChain n.table f) (sym c.self.view_is) c.requires.chain in
    linked_beside t c.pop.new.table q f c.self.invariant c.pop.ensures.rest c.pop.ensures.outside (queue_apart t q f c.self.invariant m)

pub returns-clause-chain : goal.returns-clause-chain
returns-clause-chain c =
    let t = c.self.inside.table in
    let f = c.args.chain.now in
    let m : IsFreeChain t f = subst (λ (n : PageStoreState). IsFreeChain n.table f) (sym c.self.view_is) c.requires.chain in
    record {
      stands = c.pop.ensures.stands;
      empty = λ b i. slot_at-same t c.pop.new.table b c.pop.ensures.rest ∙ m.empty b (let P : List ℕ → Type 0 = λ xs. Contains xs b in Contains-from_rest f b (subst P c.pop.ensures.list i));
    }
