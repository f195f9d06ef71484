use Rattle.std.proofs.Common.{◌∙◌, ◌++◌, [], Bool, ap, subst, sym, Result, append-nil}
use Rattle.thp_script.specs.Prelude.{max_counted, Fault}
use Rattle.thp_journal_reader.specs.declared.journals.ReadJournals.{ReadJournals}
use Rattle.thp_journal_reader.specs.Prelude.{journals_within, ReportsLongReadFault, IsStored}
use Rattle.thp_journal_reader.proofs.FollowLaws.{ended_kept}
use Rattle.thp_journal_reader.proofs.ZipLaws.{zip_weaker}
use Rattle.thp_journal_tools.specs.Checks.{AreTotals}
use Rattle.thp_journal_tools.specs.Keeping.{KeepsTotals}
use Rattle.thp_journal_tools.specs.Summaries.{IsSummary}
use Rattle.thp_journal_tools.proofs.KeptLaws.{as_summary}
use Rattle.thp_journal_tools.proofs.CheckLaws.{err_at_summary}
use Rattle.thp_journal_tools.proofs.checking.find.Goals as goal

pub returns-in_err-illegal-clause-fault : goal.returns-in_err-illegal-clause-fault
returns-in_err-illegal-clause-fault g c =
    let read = c.in_ok-check.ensures.parts in
    let fault = c.in_err-illegal.field-0.0 in
    let P : Result ReadJournals Fault → Type 0 = λ reported. ReportsLongReadFault reported fault in
    err_at_summary (g.R.Read.remaining c.args.reader.now.device) read.0 read.1 c.read_journal.new.reader.failed c.in_ok-check.ensures.flag fault
    c.from_residual-in_err-illegal.result c.from_residual-in_err-illegal.ensures.1
    (subst P (read.2.text [] ∙ c.new-check.ensures (read.0 ++ []) ∙ ap (journals_within max_counted) (append-nil read.0)) c.in_err-illegal.ensures.fault)

pub returns-then-options-clause-found : goal.returns-then-options-clause-found
returns-then-options-clause-found g c =
    let read = c.in_ok-check.ensures.parts in
    let kept = c.in_ok-illegal.ensures.kept in
    let T : Bool → Type 0 = λ asked. AreTotals asked kept.0.nodes c.in_ok-illegal.totals.items in (
      read.0,
      read.1,
      record {
        journals = kept.0;
        spelled = sym (read.2.text [] ∙ c.new-check.ensures (read.0 ++ []) ∙ ap (journals_within max_counted) (append-nil read.0)) ∙ kept.1;
        first = kept.2.0;
        totals_are = subst T (sym c.if-options.true) (zip_weaker (IsStored KeepsTotals) IsSummary kept.0.nodes _ as_summary (ended_kept KeepsTotals kept.0.nodes _ _ kept.2));
      },
    )

pub returns-clause-found : goal.returns-clause-found
returns-clause-found g c =
    let read = c.in_ok-check-2.ensures.parts in
    let first = c.in_ok-illegal-2.ensures.first in
    let T : Bool → Type 0 = λ asked. AreTotals asked first.0.nodes c.new.result.items in (
      read.0,
      read.1,
      record {
        journals = first.0;
        spelled = sym (read.2.text [] ∙ c.new-check-2.ensures (read.0 ++ []) ∙ ap (journals_within max_counted) (append-nil read.0)) ∙ first.1;
        first = first.2;
        totals_are = subst T (sym c.if-options.false) c.new.ensures.items;
      },
    )
