use Rattle.std.proofs.Common.{drop}
use Rattle.thp_page.specs.declared.standing.Standing.TheVariants.{Batch}
use Rattle.thp_node.proofs.ChainLemmas.{chain_edited}
use Rattle.thp_node.proofs.blocks.Blocks.take_first.Goals as goal

pub invariant_of-self : goal.invariant_of-self
invariant_of-self c =
    let e = c.take_first.ensures in
    chain_edited c.self.inside.places c.take_first.new.self c.self.inside.used c.self.inside.count c.self.inside.free e.block e.slot (record e.slot { standing = Batch c.args.caller }) (drop 1 c.self.inside.places.queue) 4 c.self.invariant e.at e.edits
