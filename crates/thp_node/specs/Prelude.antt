-- Re-exports the definitions and types of this library: other files import those that they cite from here, in one line.
pub use Rattle.thp_node.specs.Batches.{BatchState, FrontsStay, IsInFront, OlderAreInFront, OtherFrontsStay, back_reply, drops_page, is_back, is_pinned_found, is_split_off, is_used_found, no_batch, rest, scan_reply, takes_page, tried}
pub use Rattle.thp_node.specs.Calls.{Did, DidAlloc, Refused}
pub use Rattle.thp_node.specs.Chaining.{HasChain, LostChained}
unfoldable pub use Rattle.thp_node.specs.JournalLaws.{AllocatesOnce, FlightsGoOn, HasFramesOnce, HoldsWhileLive, KeepsFrames, LeavesFreedAlone, LivesApart, NoneIsUnderused, NothingEnters, OthersFree, QueueGoesOn, StandsOnce, StandsWhole, TakesOldest}
pub use Rattle.thp_node.specs.Journals.{CanLeave, Counts, FlightsMove, HasCountRoom, IsJournal, JournalState, joins_of, leaves_by, leaves_of, left_by, one_for}
pub use Rattle.thp_node.specs.NodeState.{NodeState}
pub use Rattle.thp_node.specs.Returning.{BeginsIn, OneBack, return_first}
pub use Rattle.thp_node.specs.Scanning.{events_after, is_tried_used, used_count}
pub use Rattle.thp_node.specs.Takings.{Took}
pub use Rattle.thp_node.specs.declared.answers.BackReply.{BackReply}
pub use Rattle.thp_node.specs.declared.answers.ScanReply.{ScanReply}
pub use Rattle.thp_node.specs.declared.answers.Tried.{Tried}
pub use Rattle.thp_node.specs.declared.journal.NodeTally.{NodeTally}
