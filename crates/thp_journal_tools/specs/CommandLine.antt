-- The command line of `thpcheck`.
use Rattle.std.specs.Prelude.{ℕ, List, Result, codes}
use Rattle.clap.specs.Words.{App, Row, one_of, with_rule}
use Rattle.clap.specs.declared.error.Error.{Error}
use Rattle.thp_cli.specs.Prelude.{bare_app, flag_rule, ReportsFlag}
use Rattle.thp_journal_tools.specs.declared.program.CheckOptions.{CheckOptions}
use Rattle.thp_journal_tools.specs.Words.{ReadsWords}

-- the command `thpcheck`, with the flags `--explain`, `--summary`, `--progress` and `--script`
abbrev pub thpcheck : App
thpcheck =
    with_rule (with_rule (with_rule (with_rule (bare_app (codes "thpcheck")) (flag_rule (codes "explain"))) (flag_rule (codes "summary"))) (flag_rule (codes "progress"))) (flag_rule (codes "script"))

-- the options are the flags of the matches
pub record HoldsOptions (matches : List Row) (options : CheckOptions) : Type 0 where
  pub explain : ReportsFlag (one_of (codes "explain") matches) options.explain
  pub summary : ReportsFlag (one_of (codes "summary") matches) options.summary
  pub progress : ReportsFlag (one_of (codes "progress") matches) options.progress
  pub script : ReportsFlag (one_of (codes "script") matches) options.script

-- the options are those of the words
abbrev pub AnswersWords : List (List ℕ) → Result CheckOptions Error → Type 0
AnswersWords = ReadsWords thpcheck HoldsOptions
