use Rattle.std.proofs.Common.{◌∙◌, ◌++◌, ap, ap₂, refl, sym, false}
use Rattle.thp_cli.specs.declared.fault.RunFault.TheVariants.{OutOfMemory}
use Rattle.thp_journal_scripts.specs.Prelude.{ScriptSoFar}
use Rattle.thp_journal_reader.specs.Prelude.{result_with}
use Rattle.thp_journal_tools.proofs.ScriptLaws.{err_is, grows_by, grows_none}
use Rattle.thp_journal_tools.proofs.scripting.write_part.Goals as goal

pub returns-in_err-check-clause-grows : goal.returns-in_err-check-clause-grows
returns-in_err-check-clause-grows g c = grows_none (g.W.Write.contents c.args.writer.now.device)

pub returns-in_err-check-clause-fault : goal.returns-in_err-check-clause-fault
returns-in_err-check-clause-fault g c = err_is c.from_residual.result false c.args.writer.now.failed OutOfMemory c.from_residual.ensures.1 (refl, c.requires)

pub returns-in_default-clause-grows : goal.returns-in_default-clause-grows
returns-in_default-clause-grows g c = grows_by (g.W.Write.contents c.args.writer.now.device) (g.W.Write.contents c.write_all.new.writer.device) c.script.result.now c.write_all.result c.write_all.ensures.written c.write_all.ensures.cut

pub returns-clause-read : goal.returns-clause-read
returns-clause-read g c = λ more. ap (λ (s : ScriptSoFar). result_with s.read more) c.clear_script.ensures ∙ c.in_ok-check.ensures.reports more

pub returns-clause-grows : goal.returns-clause-grows
returns-clause-grows g c = grows_by (g.W.Write.contents c.args.writer.now.device) (g.W.Write.contents c.write_all.new.writer.device) c.script.result.now c.write_all.result c.write_all.ensures.written c.write_all.ensures.cut

pub returns-clause-flag : goal.returns-clause-flag
returns-clause-flag g c = rw c.in-Some.is at c.write_all.ensures.flag

pub returns-clause-text : goal.returns-clause-text
returns-clause-text g c = (
  c.script.result.now,
  ap (λ (s : ScriptSoFar). s.taken) c.clear_script.ensures ∙ ap₂ (λ t u. t ++ u) c.in_ok-check.ensures.taken (sym c.script.ensures),
  rw c.in-Some.is at c.write_all.ensures.written,
)
