use Rattle.std.proofs.Common.{◌∙◌, ℕ, ap, sym, Err, Result}
use Rattle.std.proofs.lemmas.Result.{err_from_is_err_and}
use Rattle.thp_cli.specs.declared.fault.RunFault.{RunFault}
use Rattle.thp_journal_tools.specs.Checks.{found_in, IsCheckOf}
use Rattle.thp_journal_tools.specs.declared.checking.CheckFinding.{CheckFinding}
use Rattle.thp_journal_tools.proofs.CheckLaws.{check_of, check_of_input, cut_from, ends_at_find, ends_at_write, ends_reported, none_at_find}
use Rattle.thp_journal_tools.proofs.checking.check_long.Goals as goal

pub returns-in_err-found-clause-ends : goal.returns-in_err-found-clause-ends
returns-in_err-found-clause-ends g c =
    ends_at_find (IsCheckOf c.args.options) (check_of_input c.args.options) (g.R.Read.remaining c.args.reader.now.device) (g.W.Write.contents c.args.writer.now.device) c.find.new.reader.failed c.args.writer.now.failed
    c.in_err-found.field-0.0 (found_in c.from_residual.result) c.in_err-found.ensures.fault c.requires.writer
    (let p = err_from_is_err_and c.from_residual.result c.from_residual.ensures.1 in ap (λ (r : Result CheckFinding (RunFault ℕ)). found_in r) (p.1 ∙ ap (λ (f : RunFault ℕ). Err f) p.2))

pub returns-in_err-found-clause-writes : goal.returns-in_err-found-clause-writes
returns-in_err-found-clause-writes g c =
    none_at_find (g.R.Read.remaining c.args.reader.now.device) (found_in c.from_residual.result) c.find.new.reader.failed c.args.writer.now.failed c.in_err-found.field-0.0 c.args.writer.now.calls c.in_err-found.ensures.fault
    (let p = err_from_is_err_and c.from_residual.result c.from_residual.ensures.1 in ap (λ (r : Result CheckFinding (RunFault ℕ)). found_in r) (p.1 ∙ ap (λ (f : RunFault ℕ). Err f) p.2))

pub returns-in_err-ok_or-clause-ends : goal.returns-in_err-ok_or-clause-ends
returns-in_err-ok_or-clause-ends g c =
    let p = err_from_is_err_and c.from_residual-in_err-ok_or.result c.from_residual-in_err-ok_or.ensures.1 in
    let cut = cut_from c.write_text.result c.in_err-ok_or.field-0.0 (sym c.ok_or.ensures.value ∙ c.in_err-ok_or.was) in
    let found = c.in_ok-found.ensures.found in
    ends_at_write (IsCheckOf c.args.options) (check_of_input c.args.options) (g.R.Read.remaining c.args.reader.now.device) found.0 found.1 (g.W.Write.contents c.args.writer.now.device) (g.W.Write.contents c.write_text.new.writer.device)
    c.find.new.reader.failed c.write_text.new.writer.failed c.in_ok-found.found.illegal c.as_slice.result.now c.write_text.result (found_in c.from_residual-in_err-ok_or.result)
    (check_of c.args.options found.0 c.as_slice.result.now c.in_ok-found.found found.2 (c.as_slice.ensures.value ∙ c.in_ok-text.ensures))
    cut.0 c.write_text.ensures.cut c.write_text.ensures.failed c.in_ok-found.ensures.flag
    (ap (λ (r : Result CheckFinding (RunFault ℕ)). found_in r) (p.1 ∙ ap (λ (f : RunFault ℕ). Err f) (p.2 ∙ sym cut.1)))

pub returns-clause-ends : goal.returns-clause-ends
returns-clause-ends g c =
    let found = c.in_ok-found.ensures.found in
    ends_reported (IsCheckOf c.args.options) (check_of_input c.args.options) (g.R.Read.remaining c.args.reader.now.device) found.0 found.1 (g.W.Write.contents c.args.writer.now.device) (g.W.Write.contents c.write_text.new.writer.device)
    c.find.new.reader.failed c.write_text.new.writer.failed c.in_ok-found.found.illegal c.as_slice.result.now c.write_text.result c.in_ok-ok_or.field-0
    (check_of c.args.options found.0 c.as_slice.result.now c.in_ok-found.found found.2 (c.as_slice.ensures.value ∙ c.in_ok-text.ensures))
    (sym c.ok_or.ensures.value ∙ c.in_ok-ok_or.was) c.write_text.ensures.written c.write_text.ensures.flag c.in_ok-found.ensures.flag
