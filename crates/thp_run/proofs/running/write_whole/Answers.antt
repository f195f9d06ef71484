use Rattle.std.proofs.Common.{◌≡◌, ◌∙◌}
use Rattle.thp_cli.proofs.PassageLaws.{of_answer}
use Rattle.thp_run.proofs.PassageLaws.{wrote_by}
use Rattle.thp_run.proofs.running.write_whole.Goals as goal

pub returns-clause-wrote : goal.returns-clause-wrote
returns-clause-wrote g c = λ text is.
    let same : c.as_slice.result.now ≡ text = c.as_slice.ensures.value ∙ (rw c.in_ok-text.was at is) in
    rw (c.ok_or.ensures.value, ← same) (wrote_by c.as_slice.result.now (g.W.Write.contents c.args.writer.now.device) (g.W.Write.contents c.write_text.new.writer.device) c.write_text.new.writer.failed c.write_text.result
    c.write_text.ensures.written c.write_text.ensures.cut c.write_text.ensures.flag c.write_text.ensures.failed)

pub returns-clause-calls : goal.returns-clause-calls
returns-clause-calls g c = rw c.ok_or.ensures.value (of_answer c.write_text.result c.write_text.new.writer.failed c.args.writer.now.calls c.write_text.new.writer.calls c.write_text.ensures.calls)
