use Rattle.thp_node.proofs.ChainLemmas.{chain_stays}
use Rattle.thp_node.proofs.blocks.Blocks.gain.Goals as goal

pub invariant_of-self-2 : goal.invariant_of-self-2
invariant_of-self-2 c =
    chain_stays c.args.self.now c.self.inside.places c.gain.new.self c.self.inside.used c.self.inside.count c.self.inside.free c.args.block c.self.invariant c.self.view_is c.requires.occupied
    (λ x at. record { slot = record x { page = (c.in_ok-gain.ensures.gained x at).0 }; queue = c.self.inside.places.queue; most = 0; edits = (c.in_ok-gain.ensures.gained x at).2 })
