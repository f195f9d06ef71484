-- Re-exports the definitions and types of this library: other files import those that they cite from here, in one line.
pub use Rattle.thp_journal_writer.specs.EventLines.{HasSmallNumbers, event_page, outcome_word, page_words, spaced_line, what_words}
unfoldable pub use Rattle.thp_journal_writer.specs.EventLines.{event_line, event_words}
pub use Rattle.thp_journal_writer.specs.Histories.{journal_of}
pub use Rattle.thp_journal_writer.specs.Journals.{Journal, ended, has_large_caller, has_order_9, is_access, node_words, underused_words, underused_word, version_limits, version_line, version_number}
unfoldable pub use Rattle.thp_journal_writer.specs.Journals.{are_large, is_large, journal_lines, journal_text, lines_of_node, node_line, reports_underused, version_of}
pub use Rattle.thp_journal_writer.specs.Room.{Takes, number_room, outcome_room, set_room}
pub use Rattle.thp_journal_writer.specs.SetTexts.{Run, run_text, runs_from, runs_text, with_number}
unfoldable pub use Rattle.thp_journal_writer.specs.SetTexts.{set_text}
pub use Rattle.thp_journal_writer.specs.Streams.{EventFollows, IfTooLow, LeastVersionIsJournalText, NodeFollows, VersionComesFirst, event_version, includes, node_version, shape_version, text_begun, what_version}
pub use Rattle.thp_journal_writer.specs.Totals.{totals_in, totals_of, totals_text}
pub use Rattle.thp_journal_writer.specs.declared.version.Version.{Version}
pub use Rattle.thp_journal_writer.specs.declared.version.Version.TheVariants.{Large, Orders, Plain, Underused}
pub use Rattle.thp_journal_writer.specs.declared.version.VersionLimits.{VersionLimits}
pub use Rattle.thp_journal_writer.specs.declared.writer.NodeHistory.{NodeHistory}
