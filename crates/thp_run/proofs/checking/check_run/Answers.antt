use Rattle.std.proofs.Common.{◌≡◌, ◌∙◌, ◌++◌, [], ap, append-nil, refl, sym, Err, Ok}
use Rattle.std.proofs.lemmas.Result.{err_from_is_err_and}
use Rattle.thp_script.specs.Prelude.{max_input}
use Rattle.thp_journal_reader.specs.Prelude.{journals_of, result_with, verdict_text}
use Rattle.thp_journal_reader.specs.declared.line.Accepted.TheVariants.{UpToVersion3}
use Rattle.thp_journal_reader.proofs.AnswerLaws.{free_choice}
use Rattle.thp_cli.proofs.PassageLaws.{none_at_fault}
use Rattle.thp_run.proofs.CheckLaws.{check_ends_cut, check_ends_early, check_ends_written, cut_from, legal_is}
use Rattle.thp_run.proofs.checking.check_run.Goals as goal

pub returns-in_err-illegal-clause-ends : goal.returns-in_err-illegal-clause-ends
returns-in_err-illegal-clause-ends g c =
    let p = err_from_is_err_and c.from_residual-in_err-illegal.result c.from_residual-in_err-illegal.ensures.1 in
    let read = c.in_ok-check.ensures.parts in
    let reported : result_with c.in_ok-check.check [] ≡ journals_of read.0 = read.2.text [] ∙ c.of_input.ensures.reported (read.0 ++ []) ∙ ap journals_of (append-nil read.0) in
    check_ends_early (g.R.Read.remaining c.args.reader.now.device) (g.W.Write.contents c.args.writer.now.device) read.0 c.read_parts.new.reader.failed c.args.writer.now.failed
    c.in_err-illegal.field-0.0 c.from_residual-in_err-illegal.result read.1 (rw reported at c.in_err-illegal.ensures.fault) c.in_ok-check.ensures.flag c.requires.writer (p.1 ∙ ap (λ fault. Err fault) p.2)

pub returns-in_err-ok_or-clause-ends : goal.returns-in_err-ok_or-clause-ends
returns-in_err-ok_or-clause-ends g c =
    let p = err_from_is_err_and c.from_residual-in_err-ok_or.result c.from_residual-in_err-ok_or.ensures.1 in
    let cut = cut_from c.write_text.result c.in_err-ok_or.field-0.0 (sym c.ok_or.ensures.value ∙ c.in_err-ok_or.was) in
    let read = c.in_ok-check.ensures.parts in
    let reported : result_with c.in_ok-check.check [] ≡ journals_of read.0 = read.2.text [] ∙ c.of_input.ensures.reported (read.0 ++ []) ∙ ap journals_of (append-nil read.0) in
    let line = c.in_ok-illegal.ensures.line in
    let spelled : journals_of read.0 ≡ Ok line.0 = sym reported ∙ line.1 in
    check_ends_cut (g.R.Read.remaining c.args.reader.now.device) (g.W.Write.contents c.args.writer.now.device) (g.W.Write.contents c.write_text.new.writer.device) read.0 c.as_bytes.result.now
    c.read_parts.new.reader.failed c.write_text.new.writer.failed c.in_ok-illegal.illegal c.write_text.result c.from_residual-in_err-ok_or.result read.1
    (record { journals = line.0; spelled = spelled; illegal = c.in_ok-illegal.illegal; reported = line.2; free_choice = λ can. free_choice UpToVersion3 max_input read.0 line.0 c.in_ok-illegal.illegal spelled line.2 line.0 spelled can; answer = refl; written = c.as_bytes.ensures.value ∙ c.as_str.ensures.value ∙ c.verdict-text.ensures ∙ ap verdict_text c.widened.ensures })
    cut.0 c.write_text.ensures.cut c.write_text.ensures.failed c.in_ok-check.ensures.flag (p.1 ∙ ap (λ fault. Err fault) (p.2 ∙ sym cut.1))

pub returns-clause-ends : goal.returns-clause-ends
returns-clause-ends g c =
    let read = c.in_ok-check.ensures.parts in
    let reported : result_with c.in_ok-check.check [] ≡ journals_of read.0 = read.2.text [] ∙ c.of_input.ensures.reported (read.0 ++ []) ∙ ap journals_of (append-nil read.0) in
    let line = c.in_ok-illegal.ensures.line in
    let spelled : journals_of read.0 ≡ Ok line.0 = sym reported ∙ line.1 in
    check_ends_written (g.R.Read.remaining c.args.reader.now.device) (g.W.Write.contents c.args.writer.now.device) (g.W.Write.contents c.write_text.new.writer.device) read.0 c.as_bytes.result.now
    c.read_parts.new.reader.failed c.write_text.new.writer.failed c.in_ok-illegal.illegal c.write_text.result c.in_ok-ok_or.field-0 c.is_none.result read.1
    (record { journals = line.0; spelled = spelled; illegal = c.in_ok-illegal.illegal; reported = line.2; free_choice = λ can. free_choice UpToVersion3 max_input read.0 line.0 c.in_ok-illegal.illegal spelled line.2 line.0 spelled can; answer = refl; written = c.as_bytes.ensures.value ∙ c.as_str.ensures.value ∙ c.verdict-text.ensures ∙ ap verdict_text c.widened.ensures })
    (sym c.ok_or.ensures.value ∙ c.in_ok-ok_or.was) c.write_text.ensures.written c.write_text.ensures.flag c.in_ok-check.ensures.flag (legal_is c.in_ok-illegal.illegal c.is_none.result c.is_none.ensures)

pub returns-in_err-illegal-clause-writes : goal.returns-in_err-illegal-clause-writes
returns-in_err-illegal-clause-writes g c =
    let p = err_from_is_err_and c.from_residual-in_err-illegal.result c.from_residual-in_err-illegal.ensures.1 in
    none_at_fault c.from_residual-in_err-illegal.result c.args.writer.now.failed c.in_err-illegal.field-0.0 c.args.writer.now.calls (p.1 ∙ ap (λ fault. Err fault) p.2)

pub returns-in_err-ok_or-clause-writes : goal.returns-in_err-ok_or-clause-writes
returns-in_err-ok_or-clause-writes g c =
    let p = err_from_is_err_and c.from_residual-in_err-ok_or.result c.from_residual-in_err-ok_or.ensures.1 in
    let cut = cut_from c.write_text.result c.in_err-ok_or.field-0.0 (sym c.ok_or.ensures.value ∙ c.in_err-ok_or.was) in
    rw (p.1 ∙ ap (λ fault. Err fault) (p.2 ∙ sym cut.1)) c.write_text.ensures.calls
