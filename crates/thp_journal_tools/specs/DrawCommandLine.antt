-- The command line of `thpdraw`.
use Rattle.std.specs.Prelude.{ℕ, pos, List, Some, Result, codes}
use Rattle.clap.specs.Words.{App, Row, Rule, one_of, with_rule}
use Rattle.clap.specs.declared.builder.value_parser.ValueParser.TheVariants.{Signed}
use Rattle.clap.specs.declared.error.Error.{Error}
use Rattle.thp_cli.specs.Prelude.{bare_app, flag_rule, valued_rule, ReportsFlag, ReportsNumber}
use Rattle.thp_journal_tools.specs.declared.draw_program.DrawOptions.{DrawOptions}
use Rattle.thp_journal_tools.specs.Words.{ReadsWords}

-- the greatest number of a node in a journal
abbrev pub max_node_number : ℕ
max_node_number = 65535

-- `--node NODE`
abbrev pub node_rule : Rule
node_rule = record (valued_rule (codes "node")) { parser = Some (Signed (pos 0) (pos max_node_number)) }

-- the command `thpdraw`, with the options `--table`, `--node` and `--progress`
abbrev pub thpdraw : App
thpdraw = with_rule (with_rule (with_rule (bare_app (codes "thpdraw")) (flag_rule (codes "table"))) node_rule) (flag_rule (codes "progress"))

-- the options are those of the matches
pub record HoldsDrawOptions (matches : List Row) (options : DrawOptions) : Type 0 where
  pub table : ReportsFlag (one_of (codes "table") matches) options.table
  pub node : ReportsNumber (one_of (codes "node") matches) options.node
  pub progress : ReportsFlag (one_of (codes "progress") matches) options.progress

-- the options are those of the words
abbrev pub AnswersDrawWords : List (List ℕ) → Result DrawOptions Error → Type 0
AnswersDrawWords = ReadsWords thpdraw HoldsDrawOptions
