-- Re-exports the definitions and types of this library: other files import those that they cite from here, in one line.
pub use Rattle.thp_page.specs.Bridge.{CandidatesAgree, FreshPageIsRecorded, GainIsRecorded, LossIsRecorded, OthersLeavePages, RefusalsAgree, SplitIsRecorded}
pub use Rattle.thp_page.specs.Changes.{IsChange, split_set}
pub use Rattle.thp_page.specs.Descriptors.{IsSized, blank_descriptor, descriptors_of, links_of, slot_of, slots_of}
pub use Rattle.thp_page.specs.Fresh.{fresh_page}
pub use Rattle.thp_page.specs.Lending.{with_page}
pub use Rattle.thp_page.specs.OneWords.{in_word}
pub use Rattle.thp_page.specs.PageView.{FieldsAgree, NothingAfter, state_of}
pub use Rattle.thp_page.specs.Padding.{padded}
pub use Rattle.thp_page.specs.Planes.{plane}
unfoldable pub use Rattle.thp_page.specs.Planes.{count_in, counts_in}
pub use Rattle.thp_page.specs.Ranges.{some_count}
pub use Rattle.thp_page.specs.Searching.{FitsPlace, HasTreeRoom, HangsAt, IsChild, IsVacant, HoldsBlock, IsHung, HasPlace, IsLeafBelow, IsParted, IsPlaceOf, IsReplaced, IsRoot, IsSearchable, IsTakenOver, block_in, bucket_in, depth_in, number_at}
pub use Rattle.thp_page.specs.Slots.{HoldsPage, fresh_slot, number_in, page_in, paged, slot_at, stood, with_slot}
pub use Rattle.thp_page.specs.Table.{SameSlots, Slot, Table}
pub use Rattle.thp_page.specs.Tallies.{tally}
pub use Rattle.thp_page.specs.declared.page.Page.TheInside.{Inside}
pub use Rattle.thp_page.specs.declared.number_trees.NumberTrees.{NumberTrees}
pub use Rattle.thp_page.specs.declared.number_trees.Place.{Place}
pub use Rattle.thp_page.specs.declared.number_trees.Place.TheVariants.{Child, Root}
pub use Rattle.thp_page.specs.declared.page_table.Descriptor.{Descriptor}
pub use Rattle.thp_page.specs.declared.planes.Planes.{Planes}
pub use Rattle.thp_page.specs.declared.standing.Standing.{Standing}
pub use Rattle.thp_page.specs.declared.standing.Standing.TheVariants.{Nowhere}
