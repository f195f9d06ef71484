use Rattle.std.proofs.Common.{Some, [], ◌∷◌, ◌++◌, subst}
use Rattle.thp_page.specs.declared.standing.Standing.TheVariants.{Queued}
use Rattle.thp_live_pages.specs.Prelude.{PageStoreState, AtSlot, Edits}
use Rattle.thp_node.proofs.ChainLemmas.{chain_stays}
use Rattle.thp_node.proofs.blocks.Blocks.enqueue.Goals as goal

pub invariant_of-self : goal.invariant_of-self
invariant_of-self c =
    chain_stays c.args.self.now c.self.inside.places c.enqueue.new.self c.self.inside.used c.self.inside.count c.self.inside.free c.args.block c.self.invariant c.self.view_is c.requires.occupied
    (λ x at. record { slot = record x { standing = Queued }; queue = c.self.inside.places.queue ++ c.args.block ∷ []; most = 4; edits = c.enqueue.ensures x at })

pub returns : goal.returns
returns c =
    subst (λ (n : PageStoreState). AtSlot n.table c.args.block (λ x. Edits n c.enqueue.new.self c.args.block (Some (record x { standing = Queued })) (n.queue ++ c.args.block ∷ []) 4)) c.self.view_is c.enqueue.ensures
