use Rattle.std.proofs.Common.{◌∙◌, ◌++◌, List, ℕ, ap, arith, length, length-append, rules}
use Rattle.thp_cli.proofs.CallLaws.{flushes_by, part_failed, part_written}
use Rattle.thp_cli.proofs.DeviceLaws.{part_cut, written_part}
use Rattle.thp_run.proofs.PassageLaws.{none_has}
use Rattle.thp_run.proofs.running.write_parts.Goals as goal

pub returns-then-is_empty-clause-calls : goal.returns-then-is_empty-clause-calls
returns-then-is_empty-clause-calls g c =
    flushes_by c.flush.new.self.failed c.loop-writer.writer.failed c.flush.result c.args.writer.now.calls c.loop-writer.writer.calls c.flush.new.self.calls c.loop-writer.invariant.calls c.loop-writer.invariant.flag
    c.flush.ensures.calls c.flush.ensures.failed c.flush.ensures.flag_stays

pub loop-writer-preserved : goal.loop-writer-preserved
loop-writer-preserved g c =
    let contents = g.W.Write.contents in
    let part = c.part-in-loop-writer in
    let rest = c.fill.new.self.rest in
    record {
      written = written_part (contents c.args.writer.now.device) (contents c.loop-writer.writer.device) (contents c.write_all.new.writer.device) c.args.parts.now.rest c.loop-writer.parts.rest part.result.now rest
          c.loop-writer.invariant.written (ap (λ p. p ++ rest) part.ensures ∙ c.fill.ensures.text) c.in_ok-write_all.ensures.written;
      flag = c.in_ok-write_all.ensures.flag;
      calls = part_written _ c.write_all.new.writer.failed c.args.writer.now.calls c.loop-writer.writer.calls c.write_all.new.writer.calls c.loop-writer.invariant.calls c.in_ok-write_all.ensures.flag c.in_ok-write_all.ensures.calls;
    }

pub returns-in_err-write_all-clause-cut : goal.returns-in_err-write_all-clause-cut
returns-in_err-write_all-clause-cut g c =
    let contents = g.W.Write.contents in
    let part = c.part-in-loop-writer in
    let rest = c.fill.new.self.rest in
    none_has c.from_residual.result _
    (part_cut (contents c.args.writer.now.device) (contents c.loop-writer.writer.device) (contents c.write_all.new.writer.device) c.args.parts.now.rest c.loop-writer.parts.rest part.result.now rest
    c.loop-writer.invariant.written (ap (λ p. p ++ rest) part.ensures ∙ c.fill.ensures.text) c.in_err-write_all.ensures.cut)

pub returns-in_err-write_all-clause-calls : goal.returns-in_err-write_all-clause-calls
returns-in_err-write_all-clause-calls g c =
    part_failed _ c.write_all.new.writer.failed c.args.writer.now.calls c.loop-writer.writer.calls c.write_all.new.writer.calls c.loop-writer.invariant.calls c.in_err-write_all.ensures.failed c.in_err-write_all.ensures.calls

pub loop-writer-smaller : goal.loop-writer-smaller
loop-writer-smaller g c =
    let text = ap (λ (t : List ℕ). length t) c.fill.ensures.text in
    let both = length-append c.fill.new.self.part c.fill.new.self.rest in
    grind (arith, rules, text, both, c.part.ensures, c.is_empty.ensures, c.if-is_empty.false)
