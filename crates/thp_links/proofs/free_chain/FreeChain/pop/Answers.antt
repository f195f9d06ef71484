-- A pop reads the pair of the first index, and the rest stands in the same links.
use Rattle.std.proofs.Common.{ℕ, List, ◌≡◌, Some, ◌∙◌, sym, ap, length, subst, arith, slice_get}
use Rattle.thp_links.specs.Prelude.{HasHead}
use Rattle.thp_links.proofs.Members.{Contains-from_first}
use Rattle.thp_links.proofs.ChainSteps.{head_popped, chain_popped}
use Rattle.thp_links.proofs.OneTable.{ChainStands-inside}
use Rattle.thp_links.proofs.free_chain.FreeChain.pop.Goals as goal

pub link-requires : goal.link-requires
link-requires g c =
    let first : slice_get c.args.self.now 0 ≡ Some c.in_ok-i.i = sym c.first.ensures ∙ c.in_ok-i.was in
    record { inside = ChainStands-inside c.in_ok-i.i c.requires.stands (Contains-from_first c.args.self.now c.in_ok-i.i first) }

pub invariant_of-self : goal.invariant_of-self
invariant_of-self g c =
    let first : slice_get c.args.self.now 0 ≡ Some c.in_ok-i.i = sym c.first.ensures ∙ c.in_ok-i.was in
    let head = subst (λ (xs : List ℕ). HasHead c.self.inside.head xs) c.self.view_is c.self.invariant in
    rw (c.apply.ensures, c.self.view_is) (head_popped c.args.self.now _ c.in_ok-i.i c.self.inside.head c.link.result c.requires.stands first c.link.ensures.value head)

pub returns-clause-inside : goal.returns-clause-inside
returns-clause-inside g c =
    let first : slice_get c.args.self.now 0 ≡ Some c.in_ok-i.i = sym c.first.ensures ∙ c.in_ok-i.was in
    omega (arith, ChainStands-inside c.in_ok-i.i c.requires.stands (Contains-from_first c.args.self.now c.in_ok-i.i first), ap length c.link.ensures.links)

pub returns-clause-stands : goal.returns-clause-stands
returns-clause-stands g c = rw (c.apply.ensures, c.self.view_is, c.link.ensures.links) (chain_popped c.args.self.now _ c.requires.stands)
