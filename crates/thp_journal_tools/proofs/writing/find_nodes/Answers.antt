use Rattle.std.proofs.Common.{◌∙◌, ◌++◌, [], ap, subst, sym, Result, append-nil}
use Rattle.thp_script.specs.Prelude.{max_counted, Fault}
use Rattle.thp_journal_reader.specs.declared.journals.ReadJournals.{ReadJournals}
use Rattle.thp_journal_reader.specs.Prelude.{journals_within, ReportsLongReadFault, IsStored}
use Rattle.thp_journal_reader.proofs.FollowLaws.{ended_kept}
use Rattle.thp_journal_reader.proofs.ZipLaws.{zip_weaker}
use Rattle.thp_journal_tools.specs.Keeping.{KeepsDrawing}
use Rattle.thp_journal_tools.specs.Nodes.{IsDrawnOf}
use Rattle.thp_journal_tools.proofs.CheckLaws.{err_at_reading, err_at_summary}
use Rattle.thp_journal_tools.proofs.NodeLaws.{as_drawn}
use Rattle.thp_journal_tools.proofs.writing.find_nodes.Goals as goal

pub returns-in_err-check-clause-fault : goal.returns-in_err-check-clause-fault
returns-in_err-check-clause-fault g c =
    err_at_reading (g.R.Read.remaining c.args.reader.now.device) c.read_journal.new.reader.failed c.in_err-check.field-0.0 c.from_residual.result c.from_residual.ensures.1 c.in_err-check.ensures.fault

pub returns-in_err-nodes-clause-fault : goal.returns-in_err-nodes-clause-fault
returns-in_err-nodes-clause-fault g c =
    let read = c.in_ok-check.ensures.parts in
    let fault = c.in_err-nodes.field-0.0 in
    let P : Result ReadJournals Fault → Type 0 = λ reported. ReportsLongReadFault reported fault in
    err_at_summary (g.R.Read.remaining c.args.reader.now.device) read.0 read.1 c.read_journal.new.reader.failed c.in_ok-check.ensures.flag fault
    c.from_residual-in_err-nodes.result c.from_residual-in_err-nodes.ensures.1
    (subst P (read.2.text [] ∙ c.new-check.ensures (read.0 ++ []) ∙ ap (journals_within max_counted) (append-nil read.0)) c.in_err-nodes.ensures.fault)

pub returns-clause-found : goal.returns-clause-found
returns-clause-found g c =
    let read = c.in_ok-check.ensures.parts in
    let kept = c.in_ok-nodes.ensures.kept in (
      read.0,
      read.1,
      record {
        journals = kept.0;
        spelled = sym (read.2.text [] ∙ c.new-check.ensures (read.0 ++ []) ∙ ap (journals_within max_counted) (append-nil read.0)) ∙ kept.1;
        drawn = zip_weaker (IsStored KeepsDrawing) IsDrawnOf kept.0.nodes _ as_drawn (ended_kept KeepsDrawing kept.0.nodes _ _ kept.2);
      },
    )
