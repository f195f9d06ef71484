-- Re-exports the definitions and types of this library: other files import those that they cite from here, in one line.
pub use Rattle.thp_cell.specs.Calls.{BatchesStay, Called, Failed, FlightsLast, Follows, IsBusy, IsJoined, IsRefused, OtherBatchesStay, PartsStay, at_front, below, continuing, from, keeping, locking, missing, returning_node}
pub use Rattle.thp_cell.specs.Rule.{AllBelow, ExtendsBy, Home, IsOther, IsOwn, NoneOf, OldFrontAgrees, OnlyOf, RuleHolds, SeatAgrees, SeatsAgree, Since, holding, root, serving, word_of}
pub use Rattle.thp_cell.specs.Says.{DidLose, DidOne, DidPutBack, DidScan, DidTake, DidTry, SaysAlloc}
pub use Rattle.thp_cell.specs.Seats.{HasSlot, HasTaken, IsFree, IsIn, IsLent, IsLocked, IsNumbered, Place, known_state, pass_state, seat_front}
pub use Rattle.thp_cell.specs.Steps.{Counted, Locked, Looked, SeatIsWhole, SeatTook, SeatValue, Stored, joined_seats, left_of, longer, old_front, right_of, seat_locking, seat_missing, seat_with_front, spent}
pub use Rattle.thp_cell.specs.Views.{HasAll, HasCaller, PassState, part}
pub use Rattle.thp_cell.specs.declared.fault.CellFault.{CellFault}
pub use Rattle.thp_cell.specs.declared.rule.OldFront.{OldFront}
pub use Rattle.thp_cell.specs.declared.rule.SeatKnowledge.{SeatKnowledge}
