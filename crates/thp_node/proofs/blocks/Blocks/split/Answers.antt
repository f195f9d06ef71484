use Rattle.thp_page.specs.declared.standing.Standing.TheVariants.{Nowhere}
use Rattle.thp_node.proofs.ChainLemmas.{chain_stays}
use Rattle.thp_node.proofs.blocks.Blocks.split.Goals as goal

pub invariant_of-self : goal.invariant_of-self
invariant_of-self c =
    chain_stays c.args.self.now c.self.inside.places c.split.new.self c.self.inside.used c.self.inside.count c.self.inside.free c.args.block c.self.invariant c.self.view_is c.requires.occupied
    (λ x at. record { slot = record x { page = (c.split.ensures x at).0; standing = Nowhere }; queue = c.self.inside.places.queue; most = 0; edits = (c.split.ensures x at).3 })
