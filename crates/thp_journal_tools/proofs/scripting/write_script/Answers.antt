use Rattle.std.proofs.Common.{◌≡◌, ◌∙◌, ◌++◌, List, ℕ, rules, subst, sym, false, Result}
use Rattle.std.specs.Io.KnownBytes.{Appends}
use Rattle.thp_script.specs.Prelude.{Fault}
use Rattle.thp_journal_reader.specs.declared.journals.ReadJournals.{ReadJournals}
use Rattle.thp_journal_reader.specs.Prelude.{ReportsLongReadFault}
use Rattle.thp_journal_tools.proofs.ScriptLaws.{appends_kept, appends_more, cut_end, end_at_fault, end_at_finish, err_is, grows_by, grows_kept, grows_more, is_err, reported_from}
use Rattle.thp_journal_tools.proofs.scripting.write_script.Goals as goal

pub returns-in_err-check-clause-ends : goal.returns-in_err-check-clause-ends
returns-in_err-check-clause-ends g c = (
  c.write_parts.ensures.grows,
  end_at_fault (g.R.Read.remaining c.args.reader.now.device) (g.W.Write.contents c.args.writer.now.device) (g.W.Write.contents c.write_parts.new.writer.device) c.write_parts.new.reader.failed c.write_parts.new.writer.failed c.from_residual.result
      (err_is c.from_residual.result c.write_parts.new.reader.failed c.write_parts.new.writer.failed c.in_err-check.field-0.0 c.from_residual.ensures.1 c.in_err-check.ensures.fault)
      (is_err c.from_residual.result _ c.from_residual.ensures.1),
)

pub returns-in_err-scripted-clause-ends : goal.returns-in_err-scripted-clause-ends
returns-in_err-scripted-clause-ends g c =
    let read = c.in_ok-check.ensures.parts in
    let fault = c.in_err-scripted.field-0.0 in
    let P : Result ReadJournals Fault → Type 0 = λ reported. ReportsLongReadFault reported fault in (
      c.write_parts.ensures.grows,
      end_at_finish (g.R.Read.remaining c.args.reader.now.device) (g.W.Write.contents c.args.writer.now.device) (g.W.Write.contents c.write_parts.new.writer.device) read.0 read.1 c.write_parts.new.reader.failed c.write_parts.new.writer.failed
          c.in_ok-check.ensures.flags.0 c.in_ok-check.ensures.flags.1 fault c.from_residual-in_err-scripted.result c.from_residual-in_err-scripted.ensures.1 (subst P read.2 c.in_err-scripted.ensures.fault),
    )

pub returns-in_err-ok_or-clause-ends : goal.returns-in_err-ok_or-clause-ends
returns-in_err-ok_or-clause-ends g c =
    let contents = g.W.Write.contents in
    let r = c.from_residual-in_err-ok_or.result in
    let wf = c.write_all.new.writer.failed in (
      grows_more (contents c.args.writer.now.device) (contents c.write_parts.new.writer.device) (contents c.write_all.new.writer.device) c.write_parts.ensures.grows
          (grows_by (contents c.write_parts.new.writer.device) (contents c.write_all.new.writer.device) c.as_slice.result.now c.write_all.result c.write_all.ensures.written c.write_all.ensures.cut),
      end_at_fault (g.R.Read.remaining c.args.reader.now.device) (contents c.args.writer.now.device) (contents c.write_all.new.writer.device) c.write_parts.new.reader.failed wf r
          (rw c.in_ok-check.ensures.flags.0 (cut_end c.write_all.result c.in_err-ok_or.field-0.0 r wf (sym c.ok_or.ensures.value ∙ c.in_err-ok_or.was) c.write_all.ensures.failed c.from_residual-in_err-ok_or.ensures.1))
          (is_err r _ c.from_residual-in_err-ok_or.ensures.1),
    )

pub returns-in_err-ok_or-2-clause-ends : goal.returns-in_err-ok_or-2-clause-ends
returns-in_err-ok_or-2-clause-ends g c =
    let contents = g.W.Write.contents in
    let r = c.from_residual-in_err-ok_or-2.result in
    let wf = c.flush.new.self.failed in (
      grows_more (contents c.args.writer.now.device) (contents c.write_all.new.writer.device) (contents c.flush.new.self.device)
          (grows_more (contents c.args.writer.now.device) (contents c.write_parts.new.writer.device) (contents c.write_all.new.writer.device) c.write_parts.ensures.grows
          (grows_by (contents c.write_parts.new.writer.device) (contents c.write_all.new.writer.device) c.as_slice.result.now c.write_all.result c.write_all.ensures.written c.write_all.ensures.cut))
          (grows_kept (contents c.write_all.new.writer.device) (contents c.flush.new.self.device) c.flush.ensures.bytes),
      end_at_fault (g.R.Read.remaining c.args.reader.now.device) (contents c.args.writer.now.device) (contents c.flush.new.self.device) c.write_parts.new.reader.failed wf r
          (rw c.in_ok-check.ensures.flags.0 (cut_end c.flush.result c.in_err-ok_or-2.field-0.0 r wf (sym c.ok_or-2.ensures.value ∙ c.in_err-ok_or-2.was) c.flush.ensures.failed c.from_residual-in_err-ok_or-2.ensures.1))
          (is_err r _ c.from_residual-in_err-ok_or-2.ensures.1),
    )

pub returns-clause-ends : goal.returns-clause-ends
returns-clause-ends g c =
    let contents = g.W.Write.contents in
    let read = c.in_ok-check.ensures.parts in
    let scripted = c.in_ok-scripted.ensures.scripted in
    let rest : List ℕ = c.in_ok-scripted.scripted.text.items in
    let written = reported_from c.write_all.result c.in_ok-ok_or.field-0 (Appends (contents c.write_parts.new.writer.device) (contents c.write_all.new.writer.device) c.as_slice.result.now)
    (sym c.ok_or.ensures.value ∙ c.in_ok-ok_or.was) c.write_all.ensures.written in
    let all = appends_kept (contents c.args.writer.now.device) (contents c.write_all.new.writer.device) (contents c.flush.new.self.device) (c.in_ok-check.check.taken ++ rest)
    (appends_more (contents c.args.writer.now.device) (contents c.write_parts.new.writer.device) (contents c.write_all.new.writer.device) c.in_ok-check.check.taken rest c.in_ok-check.ensures.text
    (subst (λ t. Appends (contents c.write_parts.new.writer.device) (contents c.write_all.new.writer.device) t) c.as_slice.ensures.value written)) c.flush.ensures.bytes in (
      (c.in_ok-check.check.taken ++ rest, all),
      (
        (
          read.0,
          c.in_ok-check.check.taken ++ rest,
          read.1,
          all,
          record { journals = scripted.0; spelled = sym read.2 ∙ scripted.1; first = scripted.2.first; script = scripted.2.script },
        ),
        c.in_ok-check.ensures.flags.0,
        reported_from c.flush.result c.in_ok-ok_or-2.field-0 (c.flush.new.self.failed ≡ false) (sym c.ok_or-2.ensures.value ∙ c.in_ok-ok_or-2.was) (search rules),
      ),
    )
