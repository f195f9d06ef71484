use Rattle.std.proofs.Common.{Some, subst}
use Rattle.thp_page.specs.declared.standing.Standing.TheVariants.{Nowhere}
use Rattle.thp_live_pages.specs.Prelude.{PageStoreState, AtSlot, Edits}
use Rattle.thp_node.proofs.ChainLemmas.{chain_stays}
use Rattle.thp_node.proofs.blocks.Blocks.drop_out.Goals as goal

pub invariant_of-self : goal.invariant_of-self
invariant_of-self c =
    chain_stays c.args.self.now c.self.inside.places c.drop_out.new.self c.self.inside.used c.self.inside.count c.self.inside.free c.args.block c.self.invariant c.self.view_is c.requires.occupied
    (λ x at. record { slot = record x { standing = Nowhere }; queue = c.self.inside.places.queue; most = 0; edits = c.drop_out.ensures x at })

pub returns : goal.returns
returns c =
    subst (λ (n : PageStoreState). AtSlot n.table c.args.block (λ x. Edits n c.drop_out.new.self c.args.block (Some (record x { standing = Nowhere })) (n.queue) 0)) c.self.view_is c.drop_out.ensures
