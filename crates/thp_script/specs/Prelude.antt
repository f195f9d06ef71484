-- Re-exports the definitions and types of this library: other files import those that they cite from here, in one line.
pub use Rattle.thp_script.specs.Commands.{FitsBatch, IsCommandFor, Reading, command_in, commands, node_number, number_up_to, one_word, two_words}
unfoldable pub use Rattle.thp_script.specs.Commands.{batch_command, command_of, node_command, page_command, range_command}
pub use Rattle.thp_script.specs.FastParsing.{FastCommand, FastLine, FastOperands, IsName, IsPartRead, spelled_after}
pub use Rattle.thp_script.specs.FastWords.{FastNumber}
pub use Rattle.thp_script.specs.Limits.{max_counted, max_input, max_nodes, max_operand, max_workers}
pub use Rattle.thp_script.specs.Lines.{fault_of_line, is_empty, is_printable}
unfoldable pub use Rattle.thp_script.specs.Lines.{fault_after}
pub use Rattle.thp_script.specs.NumberLists.{IsListText, IsWritable, all_read, in_front, items_of, order_of, orders_in, threshold_of, threshold_text, thresholds_in}
unfoldable pub use Rattle.thp_script.specs.NumberLists.{list_in}
pub use Rattle.thp_script.specs.Operands.{Names, batch_op, range_op, reading_of}
pub use Rattle.thp_script.specs.PageCommands.{page_call_of, page_op}
pub use Rattle.thp_script.specs.Parts.{ReadSoFar, after_setup, first_section, read_after, script_in, spelled_with, with_commands}
unfoldable pub use Rattle.thp_script.specs.Parts.{lines_spell}
pub use Rattle.thp_script.specs.Readings.{◌>>=◌}
pub use Rattle.thp_script.specs.ReadsParts.{IsFrontOf, IsInputOf}
pub use Rattle.thp_script.specs.Scripts.{Fault, IsScriptFor, Placed, ReportsFault, commands_in, end_of, on_line, placed}
unfoldable pub use Rattle.thp_script.specs.Scripts.{commands_from, script_of, script_with}
pub use Rattle.thp_script.specs.Settings.{AreLow, AreOrdersFor, AreThresholdsFor, IsWithinLimits, is_low, is_order}
pub use Rattle.thp_script.specs.Statements.{IsInRange, IsSectionFor, by_words, call_statement, may_stand, says_nothing, section_after, section_of, worker_number, worker_or_call}
unfoldable pub use Rattle.thp_script.specs.Statements.{section_or_call, statement_in, statement_of, worker_of}
pub use Rattle.thp_script.specs.TextInParts.{IsCounted, TextSoFar, after_line, fault_with, first_fault, nothing_of, read_unless, result_after, unless, with_begun, with_fault, with_part}
pub use Rattle.thp_script.specs.TextKinds.{kind_word}
pub use Rattle.thp_script.specs.Words.{Text, has_numeral_front, is_numeral, lines_of, pieces_at, pieces_left, words_in_line}
unfoldable pub use Rattle.thp_script.specs.Words.{number_of}
pub use Rattle.thp_script.specs.declared.fault.TextKind.{TextKind}
pub use Rattle.thp_script.specs.declared.fault.TextKind.TheVariants.{BadByte, BadNumber, BadOrder, BadWord, TooLong}
pub use Rattle.thp_script.specs.declared.script.Command.{Command}
pub use Rattle.thp_script.specs.declared.script.CommandWord.{CommandWord}
pub use Rattle.thp_script.specs.declared.script.CommandWord.TheVariants.{OfBatch, OfNode, OfPage, OfRange}
pub use Rattle.thp_script.specs.declared.script.Op.{Op}
pub use Rattle.thp_script.specs.declared.script.ScriptSections.{ScriptSections}
pub use Rattle.thp_script.specs.declared.settings.Settings.{Settings}
pub use Rattle.thp_script.specs.declared.statement.Statement.{Statement}
pub use Rattle.thp_script.specs.declared.statement.Statement.TheVariants.{Call, Nothing, Section}
