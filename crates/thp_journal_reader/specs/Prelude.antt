-- Re-exports the definitions and types of this library: other files import those that they cite from here, in one line.
pub use Rattle.thp_journal_reader.specs.Answers.{AreLegalBefore, CanBeLegal, IsFirstIllegal, IsFirstIllegalEvent, IsLegalFront, IsLegalNode, ReportsFirst, ReportsIllegal, ReportsLongReadFault}
pub use Rattle.thp_journal_reader.specs.Chains.{IsAllocationChain, IsCovered}
pub use Rattle.thp_journal_reader.specs.EventLines.{caller_number, event_by, event_of, loss_words, no_words, page_number, range_loss_words, range_number, three_words}
unfoldable pub use Rattle.thp_journal_reader.specs.EventLines.{close_event, loss_event, outcome_and_word, page_event, range_event, split_event, unmap_event}
pub use Rattle.thp_journal_reader.specs.EventWords.{event_word, page_what, range_what}
unfoldable pub use Rattle.thp_journal_reader.specs.EventWords.{common_word, later_word, outcome_of}
pub use Rattle.thp_journal_reader.specs.FastParsing.{FastEvent, FastEventOperands, FastJournalLine, FastOutcome, FastSet, FastWord}
pub use Rattle.thp_journal_reader.specs.Following.{AreKept, EndsAt, FollowerHasRoom, FollowerKnows, FollowsBy, FollowsLines, FollowsWith, HasEnded, HasNone, HasRoomIn, IsStored, KnowsNodes, LastIsIllegal, StopsWith, first_illegal, has_stopped, illegal_so_far}
unfoldable pub use Rattle.thp_journal_reader.specs.Following.{nodes_read}
pub use Rattle.thp_journal_reader.specs.HeldBlocks.{KeepsBlocks}
pub use Rattle.thp_journal_reader.specs.JournalLines.{accepts, accepts_node, accepts_version, before, end_line, line_by_words, line_may_stand, may_have_version, accepted_at, node_of, node_with, number_between, parsed_event_line, place_after, version_at}
unfoldable pub use Rattle.thp_journal_reader.specs.JournalLines.{head_of, line_by, line_in, line_of, node_threshold_of, ordered_node, parsed_version, plain_node, underused_node}
pub use Rattle.thp_journal_reader.specs.Journals.{AreJournals, IsNodeJournal, end_of_text, journals_for_scripts, journals_of, journals_within, node_events, node_journal, nodes_of}
unfoldable pub use Rattle.thp_journal_reader.specs.Journals.{journals_accepted, journals_with, lines_from}
pub use Rattle.thp_journal_reader.specs.Keeping.{KeepsNothing}
unfoldable pub use Rattle.thp_journal_reader.specs.LastAllocations.{last_allocation}
pub use Rattle.thp_journal_reader.specs.Later.{follows_later, reads_later}
pub use Rattle.thp_journal_reader.specs.LineRanges.{AllowsVersionsAt, HasShapeWithin, IsLineInRange}
pub use Rattle.thp_journal_reader.specs.Parts.{JournalReadSoFar, journals_in, result_with, so_far, with_lines}
unfoldable pub use Rattle.thp_journal_reader.specs.Parts.{result_of_lines}
pub use Rattle.thp_journal_reader.specs.ReadTexts.{HasReadText, more_text_read, no_text_read}
pub use Rattle.thp_journal_reader.specs.Reading.{BlocksGoAlong, IsNodeBefore, IsReadingNodes, began, fault_at, nodes_in, on_last, with_event, with_line}
pub use Rattle.thp_journal_reader.specs.SetTexts.{ReadRun, covers_number, longer_run, run_of_numbers, runs_of, set_of_runs, subpage_number}
unfoldable pub use Rattle.thp_journal_reader.specs.SetTexts.{run_from, run_of, set_of_text, set_with}
pub use Rattle.thp_journal_reader.specs.Verdicts.{IsVerdict, IsVerdictAccepted, IsVerdictWithin, is_legal}
unfoldable pub use Rattle.thp_journal_reader.specs.Verdicts.{verdict_text}
pub use Rattle.thp_journal_reader.specs.declared.event_line.EventWord.{EventWord}
pub use Rattle.thp_journal_reader.specs.declared.event_line.EventWord.TheVariants.{Close, OfLoss, OfPage, OfRange, Split, UnmapSub}
pub use Rattle.thp_journal_reader.specs.declared.event_line.PageWord.{PageWord}
pub use Rattle.thp_journal_reader.specs.declared.event_line.RangeWord.{RangeWord}
pub use Rattle.thp_journal_reader.specs.declared.follower.FollowedNodes.{FollowedNodes}
pub use Rattle.thp_journal_reader.specs.declared.follower.Follower.{Follower}
pub use Rattle.thp_journal_reader.specs.declared.journals.ReadJournals.{ReadJournals}
pub use Rattle.thp_journal_reader.specs.declared.journals.ReadNode.{ReadNode}
pub use Rattle.thp_journal_reader.specs.declared.line.Accepted.{Accepted}
pub use Rattle.thp_journal_reader.specs.declared.line.Accepted.TheVariants.{EveryVersion, ForScripts, UpToVersion3}
pub use Rattle.thp_journal_reader.specs.declared.line.Line.{Line}
pub use Rattle.thp_journal_reader.specs.declared.line.Line.TheVariants.{End, Happened, Head, Node}
pub use Rattle.thp_journal_reader.specs.declared.line.Place.{Place}
pub use Rattle.thp_journal_reader.specs.declared.line.Place.TheVariants.{Ended, Inside, Start}
pub use Rattle.thp_journal_reader.specs.declared.long_check.Illegal.{Illegal}
pub use Rattle.thp_journal_writer.specs.declared.version.Version.{Version}
pub use Rattle.thp_journal_writer.specs.declared.version.Version.TheVariants.{Large, Orders, Plain, Underused}
