-- The program's command line, as `clap` reads it.
use Rattle.std.specs.Prelude.{◌≡◌, ℕ, pos, List, [], ◌∷◌, Some, Result, map, option_map, codes}
use Rattle.std.specs.Borrow.{Bor}
use Rattle.clap.specs.Words.{App, FailsBy, Row, Rule, fault_of, first_of, matches_of, one_of, with_rule}
use Rattle.clap.specs.declared.builder.value_parser.ValueParser.TheVariants.{Names, Signed}
use Rattle.clap.specs.declared.error.Error.{Error}
use Rattle.thp_cli.specs.OptionKinds.{bare_app, flag_rule, valued_rule, ReportsFlag, WritesNumber}
use Rattle.thp_history.specs.Prelude.{max_blocks}
use Rattle.thp_cli.specs.declared.line.Line.{Line}
use Rattle.thp_script.specs.declared.settings.Report.{Report}
use Rattle.thp_script.specs.declared.settings.Report.TheVariants.{Totals, Journal, Answers}
use Rattle.thp_script.specs.Prelude.{max_nodes, max_workers, IsWithinLimits}

-- `--NAME NUMBER`: a whole number from 1 to the highest; the default if the option is not given
abbrev pub number_rule : List ℕ → ℕ → List ℕ → Rule
number_rule name high default = record (valued_rule name) { defaults = default ∷ []; parser = Some (Signed (pos 1) (pos high)) }

-- `--nodes NODES`: 1 to 8
abbrev pub nodes_rule : Rule
nodes_rule = number_rule (codes "nodes") max_nodes (codes "1")

-- `--blocks BLOCKS`: 1 to 4,096
abbrev pub blocks_rule : Rule
blocks_rule = number_rule (codes "blocks") max_blocks (codes "16")

-- `--workers WORKERS`: 1 to 63
abbrev pub workers_rule : Rule
workers_rule = number_rule (codes "workers") max_workers (codes "1")

-- the program's name of a report
abbrev pub report_name : Report → List ℕ
report_name Totals = codes "totals"
report_name Journal = codes "journal"
report_name Answers = codes "answers"

-- the names of all reports
abbrev pub report_names : List (List ℕ)
report_names = map report_name (Totals ∷ Journal ∷ Answers ∷ [])

-- `--report REPORT`: one of the names; `totals` if the option is not given
abbrev pub report_rule : Bor (List (Bor (List ℕ))) → Rule
report_rule names = record (valued_rule (codes "report")) { defaults = codes "totals" ∷ []; parser = Some (Names names) }

-- `--orders ORDERS`: any text
abbrev pub orders_rule : Rule
orders_rule = valued_rule (codes "orders")

-- `--underused THRESHOLDS`: any text
abbrev pub underused_rule : Rule
underused_rule = valued_rule (codes "underused")

-- `--check`: a flag
abbrev pub check_rule : Rule
check_rule = flag_rule (codes "check")

-- the command `thpsplit` without options; it has a version
abbrev pub bare : App
bare = bare_app (codes "thpsplit")

-- the command with options of these rules added in turn
abbrev pub with_rules : App → List Rule → App
with_rules command [] = command
with_rules command (rule ∷ rules) = with_rules (with_rule command rule) rules

-- the program's options
abbrev pub own_rules : Bor (List (Bor (List ℕ))) → List Rule
own_rules names = nodes_rule ∷ blocks_rule ∷ workers_rule ∷ report_rule names ∷ orders_rule ∷ underused_rule ∷ check_rule ∷ []

-- the command `thpsplit` with these options and no others
pub record IsThpsplit (command : App) : Type 0 where
  pub names : Bor (List (Bor (List ℕ)))
  pub reports : map (λ name. name.now) names.now ≡ report_names
  pub options : command ≡ with_rules bare (own_rules names)

-- the line has the values of the matches
pub record HoldsLine (matches : List Row) (line : Line) : Type 0 where
  pub nodes : WritesNumber (one_of (codes "nodes") matches) line.nodes
  pub blocks : WritesNumber (one_of (codes "blocks") matches) line.blocks
  pub workers : WritesNumber (one_of (codes "workers") matches) line.workers
  pub report : first_of (codes "report") matches ≡ Some (report_name line.report)
  pub orders : option_map (λ text. text.now) line.orders ≡ first_of (codes "orders") matches
  pub underused : option_map (λ text. text.now) line.underused ≡ first_of (codes "underused") matches
  pub check : ReportsFlag (one_of (codes "check") matches) line.check

-- each number is within its limits
abbrev pub IsLineWithinLimits : Line → Type 0
IsLineWithinLimits line = IsWithinLimits line.nodes line.blocks line.workers

-- the line has the values of `clap`'s matches of the words
pub record HoldsWords (words : List (List ℕ)) (line : Line) : Type 0 where
  pub command : App
  pub is_thpsplit : IsThpsplit command
  pub held : HoldsLine (matches_of command words) line

-- `clap` accepts the words if there is a line, and otherwise rejects them for such an error or for lack of memory
pub record FailsAsWords (words : List (List ℕ)) (result : Result Line Error) : Type 0 where
  pub command : App
  pub is_thpsplit : IsThpsplit command
  pub fails : FailsBy (fault_of command words) result
