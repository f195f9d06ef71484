use Rattle.std.proofs.Common.{◌≡◌, ◌∙◌, ap, map, refl, Err}
use Rattle.std.proofs.lemmas.Result.{err_from_is_err_and}
use Rattle.thp_journal_writer.specs.Prelude.{journal_text, totals_text}
use Rattle.thp_run.specs.Answers.{answers_text, with_stored}
use Rattle.thp_run.specs.Reports.{report_of, reported_journal, shape_of}
use Rattle.thp_run.proofs.ReportLaws.{shapes_reported}
use Rattle.thp_run.proofs.PassageLaws.{not_run_ends, run_wrote, run_wrote_kept}
use Rattle.thp_run.proofs.running.run.Goals as goal

pub returns-in_err-ran-in-Totals-clause-ends : goal.returns-in_err-ran-in-Totals-clause-ends
returns-in_err-ran-in-Totals-clause-ends g c =
    let p = err_from_is_err_and c.from_residual.result c.from_residual.ensures.1 in
    not_run_ends c.args.settings.now (g.R.Read.remaining c.args.reader.now.device) (g.W.Write.contents c.args.writer.now.device) c.run_as_read.new.reader.failed c.args.writer.now.failed
    c.in_err-ran-in-Totals.field-0.0 c.from_residual.result c.in_err-ran-in-Totals.ensures.fault c.requires.writer (p.1 ∙ ap (λ fault. Err fault) p.2)

pub returns-in_err-ran-in-Answers-clause-ends : goal.returns-in_err-ran-in-Answers-clause-ends
returns-in_err-ran-in-Answers-clause-ends g c =
    let p = err_from_is_err_and c.from_residual-in_err-ran-in-Answers.result c.from_residual-in_err-ran-in-Answers.ensures.1 in
    not_run_ends c.args.settings.now (g.R.Read.remaining c.args.reader.now.device) (g.W.Write.contents c.args.writer.now.device) c.run_as_read-in-Answers.new.reader.failed c.args.writer.now.failed
    c.in_err-ran-in-Answers.field-0.0 c.from_residual-in_err-ran-in-Answers.result c.in_err-ran-in-Answers.ensures.fault c.requires.writer (p.1 ∙ ap (λ fault. Err fault) p.2)

pub returns-in_err-ran-in-Journal-clause-ends : goal.returns-in_err-ran-in-Journal-clause-ends
returns-in_err-ran-in-Journal-clause-ends g c =
    let p = err_from_is_err_and c.from_residual-in_err-ran-in-Journal.result c.from_residual-in_err-ran-in-Journal.ensures.1 in
    not_run_ends c.args.settings.now (g.R.Read.remaining c.args.reader.now.device) (g.W.Write.contents c.args.writer.now.device) c.run_as_read-in-Journal.new.reader.failed c.args.writer.now.failed
    c.in_err-ran-in-Journal.field-0.0 c.from_residual-in_err-ran-in-Journal.result c.in_err-ran-in-Journal.ensures.fault c.requires.writer (p.1 ∙ ap (λ fault. Err fault) p.2)

pub returns-in_ok-ran-in-Totals-clause-ends : goal.returns-in_ok-ran-in-Totals-clause-ends
returns-in_ok-ran-in-Totals-clause-ends g c =
    let s = c.args.settings.now in
    let ran = c.in_ok-ran-in-Totals in
    let text = totals_text (map reported_journal ran.ran.nodes.items) in
    let reported : text ≡ report_of s.report (map reported_journal ran.ran.nodes.items) ran.ran.sections.items = rw c.in-Totals.is refl in
    run_wrote s (g.R.Read.remaining c.args.reader.now.device) ran.ran.nodes.items ran.ran.sections.items text (g.W.Write.contents c.args.writer.now.device) (g.W.Write.contents c.write_whole.new.writer.device)
    c.run_as_read.new.reader.failed c.write_whole.new.writer.failed c.write_whole.result ran.ensures.ran reported (c.write_whole.ensures.wrote text (rw c.as_slice.ensures.value at c.totals_text.ensures)) ran.ensures.flag

pub returns-in_ok-ran-in-Journal-clause-ends : goal.returns-in_ok-ran-in-Journal-clause-ends
returns-in_ok-ran-in-Journal-clause-ends g c =
    let s = c.args.settings.now in
    let ran = c.in_ok-ran-in-Journal in
    let text = journal_text (map reported_journal ran.ran.nodes.items) in
    let reported : text ≡ report_of s.report (map reported_journal ran.ran.nodes.items) ran.ran.sections.items = rw c.in-Journal.is refl in
    run_wrote s (g.R.Read.remaining c.args.reader.now.device) ran.ran.nodes.items ran.ran.sections.items text (g.W.Write.contents c.args.writer.now.device) (g.W.Write.contents c.write_whole-in-Journal.new.writer.device)
    c.run_as_read-in-Journal.new.reader.failed c.write_whole-in-Journal.new.writer.failed c.write_whole-in-Journal.result ran.ensures.ran reported (c.write_whole-in-Journal.ensures.wrote text (rw c.as_slice-in-Journal.ensures.value at c.journals_text.ensures)) ran.ensures.flag

pub returns-in_ok-ran-in-Answers-clause-ends : goal.returns-in_ok-ran-in-Answers-clause-ends
returns-in_ok-ran-in-Answers-clause-ends g c =
    let s = c.args.settings.now in
    let ran = c.in_ok-ran-in-Answers in
    let text = answers_text (map shape_of ran.ran.nodes.items) (map with_stored ran.ran.sections.items) in
    let reported : text ≡ report_of s.report (map reported_journal ran.ran.nodes.items) (map with_stored ran.ran.sections.items) = rw (c.in-Answers.is, shapes_reported ran.ran.nodes.items) refl in
    run_wrote_kept s (g.R.Read.remaining c.args.reader.now.device) ran.ran.nodes.items ran.ran.sections.items text (g.W.Write.contents c.args.writer.now.device) (g.W.Write.contents c.write_answers.new.writer.device)
    c.run_as_read-in-Answers.new.reader.failed c.write_answers.new.writer.failed c.write_answers.result ran.ensures.ran reported c.write_answers.ensures.wrote ran.ensures.flag
