-- A push writes one pair, which is the new first one.
use Rattle.std.proofs.Common.{List, ℕ, ◌∙◌, ap, get_or}
use Rattle.thp_links.specs.Prelude.{NIL}
use Rattle.thp_links.proofs.ChainSteps.{chain_pushed}
use Rattle.thp_links.proofs.free_chain.FreeChain.push.Goals as goal

pub returns-clause-stands : goal.returns-clause-stands
returns-clause-stands g c =
    let first = c.self.invariant.first ∙ ap (λ (xs : List ℕ). get_or xs 0 NIL) c.self.view_is in
    rw (c.apply.ensures, c.self.view_is) (chain_pushed c.args.i c.self.inside.head c.args.self.now _ _ c.requires.stands c.requires.inside c.requires.absent first c.set_link.ensures.links).0

pub returns-clause-outside : goal.returns-clause-outside
returns-clause-outside g c =
    let first = c.self.invariant.first ∙ ap (λ (xs : List ℕ). get_or xs 0 NIL) c.self.view_is in
    rw (c.apply.ensures, c.self.view_is) (chain_pushed c.args.i c.self.inside.head c.args.self.now _ _ c.requires.stands c.requires.inside c.requires.absent first c.set_link.ensures.links).1
