-- Re-exports the definitions and types of this library: other files import those that they cite from here, in one line.
pub use Rattle.thp_journal_scripts.specs.Folds.{AddsCommands, AddsEvent, AddsPlain, AddsTo, FoldEnds, FollowsEvent, GoesOn, HasAdded, IsAtPlace, IsAtScan, IsFolded, IsFoldedTo, IsInScan, IsQuiet, IsScript, KeepsFlights, flying, flying_after, leave, leave_if_freed, nothing_moved, pages_in_scan}
pub use Rattle.thp_journal_scripts.specs.JournalScripts.{AddsLine, AreScripted, IsLegalPart, IsScriptOf, IsScripting, ScriptSoFar, ended_nodes, repeated_of, shape_and_events}
pub use Rattle.thp_journal_scripts.specs.LateScans.{AreWaiting, CountsCall, EndsWaiting, ExtendsLast, IsNextScan, LosesPage, MovedSoFar, MovesBy, MovesEvent, TakesLate, Waits, begins_late, extends_late, loses_none, loses_one, moved_so_far}
pub use Rattle.thp_journal_scripts.specs.Moving.{AreLateScans, Interleaves, IsMovedBatch, IsOfBatch, IsScan, MovedBatch, all_freed, all_takes, both_moved, capped_count, first, freed_in, is_take, late_scan, one_if_freed, pages_freed, takes_in, neither, second}
pub use Rattle.thp_journal_scripts.specs.NodeScripts.{BeginsNode, EndedNode, EndsAs, EndsNode, GoesOnAs, GoesOnWith, IsBegun, IsEnded, IsWriting, NodeScript, StaysWritten, head_text, moved_by, node_after, node_script_text, node_scripts, nodes_text, out_of_turn_by, out_of_turn_in, script_shape, taken_of, untaken}
pub use Rattle.thp_journal_scripts.specs.Repeating.{AreBy, IsBy, IsCall, IsScanBy, Repeats, RepeatsBy, call_in, calls_in, calls_of, is_call, kind_of}
pub use Rattle.thp_journal_scripts.specs.ScriptBatches.{Completes, EndsPuts, EndsTakes, EndsTries, IsIncomplete, IsPending, IsSettled, PutsMore, RepeatsUpTo, TakesMore, TakesSome, TriesMore, open_by, pending_ops, settled}
pub use Rattle.thp_journal_scripts.specs.ScriptTexts.{blocks_text, command_line, commands_text, count_text, orders_text, thresholds_text}
unfoldable pub use Rattle.thp_journal_scripts.specs.ScriptTexts.{options_line}
pub use Rattle.thp_journal_scripts.specs.Turns.{TurnsSoFar, done_page, first_untried, is_other, is_out_of_turn, out_of_turn, taken_by, tried_page, turns_after, turns_of, unless_done, untried_after, without_place}
pub use Rattle.thp_journal_scripts.specs.WholeScans.{Between, Elsewhere, InPuts, InTakes, InTries, IsCallOrScan, IsWholeScans, ScanPlace, once_ended, pages_after, pages_without, place_of_call, place_of_put, place_of_take, place_of_try, scan_place, scan_place_after, scan_place_of}
pub use Rattle.thp_journal_scripts.specs.declared.folding.EventKind.{EventKind}
pub use Rattle.thp_journal_scripts.specs.declared.folding.EventKind.TheVariants.{Call, Put, Take, Try}
pub use Rattle.thp_journal_scripts.specs.declared.folding.Folding.{Folding}
pub use Rattle.thp_journal_scripts.specs.declared.folding.Moved.{Moved}
pub use Rattle.thp_journal_scripts.specs.declared.journal_script.JournalScript.{JournalScript}
pub use Rattle.thp_journal_scripts.specs.declared.open_flights.FlyingPage.{FlyingPage}
pub use Rattle.thp_journal_scripts.specs.declared.open_flights.WaitingFlight.{WaitingFlight}
pub use Rattle.thp_journal_scripts.specs.declared.script_batch.ScriptBatch.{ScriptBatch}
pub use Rattle.thp_journal_scripts.specs.declared.script_batch.ScriptBatch.TheVariants.{Closing, Idle, Open, Scanned, Taking, Trying}
pub use Rattle.thp_journal_scripts.specs.declared.script_check.ScriptedNodes.{ScriptedNodes}
pub use Rattle.thp_journal_scripts.specs.declared.turns.UntriedPage.{UntriedPage}
