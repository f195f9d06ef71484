-- Re-exports the definitions and types of this library: other files import those that they cite from here, in one line.
pub use Rattle.thp_cli.specs.Calls.{EndsReading, Follow, IsTaken, ReadsOn, WritesAll, WritesOn, is_answered, read_giving, read_room, writes_of}
pub use Rattle.thp_cli.specs.CommandLine.{FailsAsWords, HoldsWords, IsLineWithinLimits, bare, blocks_rule, check_rule, nodes_rule, number_rule, orders_rule, own_rules, report_name, report_names, report_rule, underused_rule, with_rules, workers_rule}
pub use Rattle.thp_cli.specs.Devices.{WritesFront}
pub use Rattle.thp_cli.specs.OptionKinds.{IsOption, ReportsFlag, ReportsNumber, WritesNumber, bare_app, flag_rule, valued_rule}
pub use Rattle.thp_cli.specs.Options.{HasValue}
pub use Rattle.thp_cli.specs.Outcomes.{Device, IsShort, IsUnread, IsUntouched, Source, WasAnsweredBy, WriterTakes, WritesMessage, device_of, end_status, fault_line, given_words, name_front, no_node_line, source_of, status_of}
pub use Rattle.thp_cli.specs.OwnCommand.{IsOwnCommand}
pub use Rattle.thp_cli.specs.Passages.{PassageEnds, WritesAnswer}
pub use Rattle.thp_cli.specs.RunFaults.{IsReadingFault, fault_of_long_read, fault_text, run_fault}
pub use Rattle.thp_cli.specs.Watch.{Watch}
pub use Rattle.thp_cli.specs.declared.calls.DeviceCall.{DeviceCall}
pub use Rattle.thp_cli.specs.declared.fault.RunFault.{RunFault}
pub use Rattle.thp_cli.specs.declared.fault.RunFault.TheVariants.{OutOfMemory, Text, Write}
pub use Rattle.thp_cli.specs.declared.line.Line.{Line}
