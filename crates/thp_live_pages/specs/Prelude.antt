-- Re-exports the definitions and types of this library: other files import those that they cite from here, in one line.
pub use Rattle.thp_live_pages.specs.BlockHolders.{AreFree}
unfoldable pub use Rattle.thp_live_pages.specs.BlockHolders.{least_of}
pub use Rattle.thp_live_pages.specs.Flying.{IsFlyingAt, IsUnpinnedAt}
pub use Rattle.thp_live_pages.specs.FreeChains.{IsFreeChain, Relinks}
pub use Rattle.thp_live_pages.specs.FreeSets.{FreeSet, IsFreedBelow, Sums}
unfoldable pub use Rattle.thp_live_pages.specs.FreeSets.{has_block}
pub use Rattle.thp_live_pages.specs.Holding.{Fills, HasBlock, IsNode, IsSlot}
pub use Rattle.thp_live_pages.specs.Homes.{LiesWherePlaced, block_after, block_by, flier, stands_by}
unfoldable pub use Rattle.thp_live_pages.specs.Homes.{block_of, standing_of}
pub use Rattle.thp_live_pages.specs.Linking.{IsListed, IsQueued, QueueIsLinked}
pub use Rattle.thp_live_pages.specs.Outcomes.{outcome_by, released_after}
pub use Rattle.thp_live_pages.specs.PageStoreState.{AtSlot, Edits, EmptyLinksStay, HasFree, IsElsewhere, IsPlaced, Lost, PageStoreState, TakesFirst, batch_left, is_nowhere, leaves_batch, new_queue, new_standing, queue_by_outcome, slot_after}
