-- The command `thpsplit`: what `clap` makes of its options.
use Rattle.std.proofs.Common.{◌≡◌, ◌∙◌, ap, arith, codes, inl, map, refl, subst, sym, true, false, List, [], ℕ, Some, Result, Ok, Err, IsErrAnd, option_map, pos, Bor}
use Rattle.clap.specs.Built.{IsPlain}
use Rattle.clap.specs.Facts.{args_of, groups_of}
use Rattle.clap.specs.Simple.{app_of_fields}
use Rattle.clap.specs.Words.{App, AddsArg, AddsInTurn, FailsBy, HasMatchesOf, IsPlainArg, app_of, fault_of, first_of, first_value, found_of, is_simple, is_simple_and_free, kind_of, matches_of, new_app, one_of, one_text, rows_of}
use Rattle.clap.specs.declared.builder.arg.Arg.{Arg}
use Rattle.clap.specs.declared.builder.command.Command.{Command}
use Rattle.clap.specs.declared.builder.command.Command.TheViews.{out-Command}
use Rattle.clap.specs.declared.builder.value_parser.ValueParser.TheVariants.{Names, Signed}
use Rattle.clap.specs.declared.error.Error.{Error}
use Rattle.clap.specs.declared.error.kind.ErrorKind.TheVariants.{OutOfMemory}
use Rattle.clap.specs.declared.parser.matches.ArgMatches.{ArgMatches}
use Rattle.clap.specs.declared.parser.matches.Found.{Found}
use Rattle.clap.proofs.OnLiterals.{clap_on_literals}
use Rattle.clap.proofs.WalkLemmas.{first_value-rows, one_text-rows}
use Rattle.std.proofs.lemmas.List.Elements.{All-nil}
use Rattle.thp_cli.specs.Prelude.{ReportsFlag, WritesNumber, FailsAsWords, HoldsWords, bare, blocks_rule, nodes_rule, own_rules, report_name, report_names, report_rule, with_rules, workers_rule, IsOwnCommand, Line}
use Rattle.thp_history.specs.Prelude.{max_blocks}
use Rattle.thp_script.specs.Prelude.{max_nodes, max_workers}
use Rattle.thp_cli.proofs.ChainLaws.{AreOptions, IsDefaultRule, chained, chained_app, option_value}

abbrev pub ReportNames : Type 0
ReportNames = Bor (List (Bor (List ℕ)))

abbrev pub thpsplit : ReportNames → App
thpsplit names = with_rules bare (own_rules names)

nodes_default : (names : ReportNames) → IsDefaultRule (own_rules names) 0 nodes_rule (Signed (pos 1) (pos max_nodes))
nodes_default names = record { within = omega arith; here = λ d. refl; once = refl; set = refl; range = refl; default = refl; reads = refl; exact_case = refl; named = refl; own = refl }

blocks_default : (names : ReportNames) → IsDefaultRule (own_rules names) 1 blocks_rule (Signed (pos 1) (pos max_blocks))
blocks_default names = record { within = omega arith; here = λ d. refl; once = refl; set = refl; range = refl; default = refl; reads = refl; exact_case = refl; named = refl; own = refl }

workers_default : (names : ReportNames) → IsDefaultRule (own_rules names) 2 workers_rule (Signed (pos 1) (pos max_workers))
workers_default names = record { within = omega arith; here = λ d. refl; once = refl; set = refl; range = refl; default = refl; reads = refl; exact_case = refl; named = refl; own = refl }

report_default : (names : ReportNames) → IsDefaultRule (own_rules names) 3 (report_rule names) (Names names)
report_default names = record { within = omega arith; here = λ d. refl; once = refl; set = refl; range = refl; default = refl; reads = refl; exact_case = refl; named = refl; own = refl }

-- a new command that was given a version and what its help says, and to which the options were added in turn
module _ (new start command : Command) (version : _) (about after_help : _) (options : List Arg) (is : out-Command start ≡ record (out-Command new) { about = about; version = Some version; after_help = after_help }) (adds : AddsInTurn AddsArg start options command) where
  pub own : (names : ReportNames) → map (λ name. name.now) names.now ≡ report_names → app_of new ≡ new_app (codes "thpsplit") → args_of new ≡ [] → groups_of new ≡ [] → (out-Command new).has_globals ≡ false
      → AreOptions options (own_rules names) → IsOwnCommand command
  own names all app args groups globals are =
      let none : args_of start ≡ [] = ap (λ f. f.args.items) is ∙ args in
      let no-groups : groups_of start ≡ [] = ap (λ f. f.groups.items) is ∙ groups in
      let plain : IsPlain start = (rw none (All-nil IsPlainArg), no-groups) in
      let start-app : app_of start ≡ bare = ap app_of_fields is ∙ ap (λ (a : App). record a { top = record a.top { has_version = true } }) app in
      let chain = chained start command options (own_rules names) adds are plain (ap (λ f. f.has_globals) is ∙ globals) in
      record {
        is_thpsplit = record {
          names = names;
          reports = all;
          options = chained_app start command options (own_rules names) adds are ∙ ap (λ a. with_rules a (own_rules names)) start-app;
        };
        nodes = λ m parsed. option_value start command (own_rules names) 0 nodes_rule (Signed (pos 1) (pos max_nodes)) m chain none (nodes_default names) parsed;
        blocks = λ m parsed. option_value start command (own_rules names) 1 blocks_rule (Signed (pos 1) (pos max_blocks)) m chain none (blocks_default names) parsed;
        workers = λ m parsed. option_value start command (own_rules names) 2 workers_rule (Signed (pos 1) (pos max_workers)) m chain none (workers_default names) parsed;
        report = λ m parsed. option_value start command (own_rules names) 3 (report_rule names) (Names names) m chain none (report_default names) parsed;
      }

simple : (names : ReportNames) → is_simple (thpsplit names) ≡ true
unfolding clap_on_literals
simple names = refl

free : (names : ReportNames) → is_simple_and_free (thpsplit names) ≡ true
unfolding clap_on_literals
free names = refl

-- names to speak of where no command was made
some_names : ReportNames
some_names = record { ref_ptr = (0, 0); now = map (λ name. record { ref_ptr = (0, 0); now = name }) report_names }

some_all : map (λ name. name.now) some_names.now ≡ report_names
unfolding some_names
some_all = refl

-- want of memory is an answer to any words
pub memory_fails : (words : List (List ℕ)) (r : Result Line Error) → IsErrAnd r (λ e. kind_of e ≡ OutOfMemory) → FailsAsWords words r
memory_fails words (Ok line) h = absurd h
memory_fails words (Err e) h = record { command = thpsplit some_names; is_thpsplit = record { names = some_names; reports = some_all; options = refl }; fails = inl h }

-- the line has the values that a parse found
pub record HoldsFound (found : Found) (line : Line) : Type 0 where
  pub nodes : WritesNumber (one_text found (codes "nodes")) line.nodes
  pub blocks : WritesNumber (one_text found (codes "blocks")) line.blocks
  pub workers : WritesNumber (one_text found (codes "workers")) line.workers
  pub report : first_value found (codes "report") ≡ Some (report_name line.report)
  pub orders : option_map (λ text. text.now) line.orders ≡ first_value found (codes "orders")
  pub underused : option_map (λ text. text.now) line.underused ≡ first_value found (codes "underused")
  pub check : ReportsFlag (one_text found (codes "check")) line.check

-- what `clap` answers to the words for the command
module _ (command : Command) (own : IsOwnCommand command) (words : List (List ℕ)) where
  pub parse_fails : (parse : Result ArgMatches Error) (e : Error) → (is_simple_and_free (app_of command) ≡ true → FailsBy (fault_of (app_of command) words) parse) → parse ≡ Err e → (r : Result Line Error) → IsErrAnd r (λ d. d ≡ e) → FailsAsWords words r
  parse_fails parse e kinds is x h = grind (arith, own, free)

  pub parse_done : (parse : Result ArgMatches Error) (matches : ArgMatches) → (is_simple_and_free (app_of command) ≡ true → FailsBy (fault_of (app_of command) words) parse) → parse ≡ Ok matches → (line : Line) → FailsAsWords words (Ok line)
  parse_done parse matches kinds is line = grind (arith, own, free)

  pub line_held : (matches : ArgMatches) → HasMatchesOf (app_of command) words matches → (line : Line) → HoldsFound (found_of matches) line → HoldsWords words line
  line_held matches has line held =
      let found = found_of matches in
      let rows : rows_of found ≡ matches_of (app_of command) words = (has (ap is_simple own.is_thpsplit.options ∙ simple own.is_thpsplit.names)).0 in
      let one : (id : List ℕ) → one_text found id ≡ one_of id (matches_of (app_of command) words) = λ id. one_text-rows found id ∙ ap (one_of id) rows in
      let first : (id : List ℕ) → first_value found id ≡ first_of id (matches_of (app_of command) words) = λ id. first_value-rows found id ∙ ap (first_of id) rows in
      record {
        command = app_of command;
        is_thpsplit = own.is_thpsplit;
        held = record {
          nodes = subst (λ o. WritesNumber o line.nodes) (one (codes "nodes")) held.nodes;
          blocks = subst (λ o. WritesNumber o line.blocks) (one (codes "blocks")) held.blocks;
          workers = subst (λ o. WritesNumber o line.workers) (one (codes "workers")) held.workers;
          report = sym (first (codes "report")) ∙ held.report;
          orders = held.orders ∙ first (codes "orders");
          underused = held.underused ∙ first (codes "underused");
          check = subst (λ o. ReportsFlag o line.check) (one (codes "check")) held.check;
        };
      }
