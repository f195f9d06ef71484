use Rattle.std.proofs.Common.{◌≡◌, ◌+◌, None, length, ap, sym, ◌∙◌, subst, arith}
use Rattle.thp_links.proofs.Members.{Contains-from_first}
use Rattle.thp_live_pages.specs.Prelude.{PageStoreState, HasFree, new_standing, new_queue}
use Rattle.thp_node.proofs.ChainLemmas.{chain_placed, chain_begun, unused_inside}
use Rattle.thp_node.proofs.blocks.Blocks.place.Goals as goal

pub place-requires-clause-inside : goal.place-requires-clause-inside
place-requires-clause-inside c =
    let i = c.self.inside in
    let below = c.self.invariant.inside c.in-Some.block (Contains-from_first i.free c.in-Some.block (sym c.pop_free.ensures.value ∙ c.in-Some.is)) in
    omega (arith, below, c.self.invariant.within, c.self.invariant.size, ap length c.pop_free.ensures.same.slots)

pub returns-in-Some-clause-inside : goal.returns-in-Some-clause-inside
returns-in-Some-clause-inside c =
    let i = c.self.inside in
    let below = c.self.invariant.inside c.in-Some.block (Contains-from_first i.free c.in-Some.block (sym c.pop_free.ensures.value ∙ c.in-Some.is)) in
    omega (arith, below, c.self.invariant.within, c.self.invariant.size, ap (λ (n : PageStoreState). length n.table.slots) c.self.view_is)

pub invariant_of-self : goal.invariant_of-self
invariant_of-self c =
    let i = c.self.inside in
    let put = c.place.ensures in
    chain_placed i.places c.pop_free.new.self c.place.new.self i.used i.count i.free c.pop_free.new.chain c.in-Some.block (record { id = c.args.page; page = put.page; standing = new_standing c.args.queued })
    (new_queue c.args.queued c.in-Some.block c.pop_free.new.self.queue) _ c.self.invariant (sym c.pop_free.ensures.value ∙ c.in-Some.is) c.self.invariant.chain.stands.distinct c.pop_free.ensures.list c.pop_free.ensures.chain
    c.pop_free.ensures.same put.edits
