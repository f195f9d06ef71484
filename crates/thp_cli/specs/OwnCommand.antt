-- The command `thpsplit` as `clap` represents it.
use Rattle.std.specs.Prelude.{codes, pos}
use Rattle.clap.specs.Words.{IsParsedFrom, app_of, found_of}
use Rattle.clap.specs.declared.builder.command.Command.{Command}
use Rattle.clap.specs.declared.builder.value_parser.ValueParser.TheVariants.{Names, Signed}
use Rattle.clap.specs.declared.parser.matches.ArgMatches.{ArgMatches}
use Rattle.thp_history.specs.Prelude.{max_blocks}
use Rattle.thp_script.specs.Prelude.{max_nodes, max_workers}
use Rattle.thp_cli.specs.CommandLine.{IsThpsplit}
use Rattle.thp_cli.specs.Options.{HasValue}

-- the command has the program's options; those with a default have a value after a parse
pub record IsOwnCommand (command : Command) : Type 0 where
  pub is_thpsplit : IsThpsplit (app_of command)
  pub nodes : (m : ArgMatches) → IsParsedFrom command m → HasValue (found_of m) (codes "nodes") (Signed (pos 1) (pos max_nodes))
  pub blocks : (m : ArgMatches) → IsParsedFrom command m → HasValue (found_of m) (codes "blocks") (Signed (pos 1) (pos max_blocks))
  pub workers : (m : ArgMatches) → IsParsedFrom command m → HasValue (found_of m) (codes "workers") (Signed (pos 1) (pos max_workers))
  pub report : (m : ArgMatches) → IsParsedFrom command m → HasValue (found_of m) (codes "report") (Names is_thpsplit.names)
