-- Re-exports the definitions of this library: other files import those that they cite from here, in one line.
pub use Rattle.thp_capi.specs.Calls.{AbandonCall, AllocCall, BackCall, BackFails, BackRecords, BackReplies, LoseCall, NextCall, OneCall, ReserveCall, ScanCall, TakeCall, Written}
pub use Rattle.thp_capi.specs.Checks.{CheckAnswer, ReportsText, code_and_line}
pub use Rattle.thp_capi.specs.Codes.{IsCode, Reports, answer_of_code, answer_with}
pub use Rattle.thp_capi.specs.Engines.{EngineState, IsEngine, NoneOpen, OthersOpen, engine_open_of, shape_with}
pub use Rattle.thp_capi.specs.Held.{DoesIfKept, DoesOnHandle, Emptied, MadeNode, Returns, held_value, is_counting}
pub use Rattle.thp_capi.specs.LongChecks.{CheckMade, CheckReads, CheckReports, LongCheckEnds}
pub use Rattle.thp_capi.specs.PassBatches.{PassAbandon, PassBack, PassNext, PassTake}
pub use Rattle.thp_capi.specs.Passes.{Adjoin, AdjoinHeld, CellMade, Dismantled, Divided, Divides, Finished, IsCellSize, IsNewPass, Joined, OneCell, OneCellHeld, PassAlloc, PassCount, PassLost, PassOne, PassScan, WhyApart, WhyUndivided, WhyUnfinished}
pub use Rattle.thp_capi.specs.Reading.{MapcountCall, PageCall, QueueCall, filled_with}
pub use Rattle.thp_capi.specs.Replies.{stats_of}
pub use Rattle.thp_capi.specs.Rooms.{value_of}
pub use Rattle.thp_capi.specs.Sharing.{HasOpen, IsShared, IsSharedPart, NoneIsOpen, OnlyFront, SharedOpenStay, SharedState}
