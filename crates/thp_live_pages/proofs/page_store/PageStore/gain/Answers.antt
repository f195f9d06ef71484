-- The page of the block changes, and nothing else.
use Rattle.thp_live_pages.proofs.Relinking.{linked_paged, seen_inside, seen_taken}
use Rattle.thp_live_pages.proofs.page_store.PageStore.gain.Goals as goal

pub occupant_mut-requires-clause-inside : goal.occupant_mut-requires-clause-inside
occupant_mut-requires-clause-inside c = seen_inside _ _ _ c.args.block c.self.view_is c.self.invariant c.requires.occupied

pub occupant_mut-requires-clause-occupied : goal.occupant_mut-requires-clause-occupied
occupant_mut-requires-clause-occupied c = seen_taken _ _ _ c.args.block c.self.view_is c.requires.occupied

pub invariant_of-self : goal.invariant_of-self
invariant_of-self c = linked_paged c.self.inside.table c.self.inside.queue c.args.block c.gain.new.self c.self.invariant (seen_taken _ _ _ c.args.block c.self.view_is c.requires.occupied)
