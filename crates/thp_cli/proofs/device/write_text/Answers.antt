use Rattle.std.proofs.Common.{length, [], None, Option, Some, IfNone}
use Rattle.thp_cli.proofs.CallLaws.{flushes_by, follow_none, part_failed, part_written}
use Rattle.thp_cli.proofs.DeviceLaws.{flush_stops, written_all}
use Rattle.thp_cli.proofs.device.write_text.Goals as goal

pub returns-in_err-write_all-clause-calls : goal.returns-in_err-write_all-clause-calls
returns-in_err-write_all-clause-calls g c =
    part_failed (length c.args.text.now) c.write_all.new.writer.failed c.args.writer.now.calls c.args.writer.now.calls c.write_all.new.writer.calls (follow_none c.args.writer.now.calls) c.in_err-write_all.ensures.failed c.in_err-write_all.ensures.calls

pub returns-clause-calls : goal.returns-clause-calls
returns-clause-calls g c =
    flushes_by c.flush.new.self.failed c.write_all.new.writer.failed c.flush.result c.args.writer.now.calls c.write_all.new.writer.calls c.flush.new.self.calls
    (part_written (length c.args.text.now) c.write_all.new.writer.failed c.args.writer.now.calls c.args.writer.now.calls c.write_all.new.writer.calls (follow_none c.args.writer.now.calls) c.in_ok-write_all.ensures.flag c.in_ok-write_all.ensures.calls) c.in_ok-write_all.ensures.flag c.flush.ensures.calls c.flush.ensures.failed c.flush.ensures.flag_stays

-- what holds anyhow holds if there is nothing
if_none : (o : Option (Unit {0})) (P : Type 0) → P → IfNone o P
if_none None P p = p
if_none (Some u) P p = tt

pub returns-clause-cut : goal.returns-clause-cut
returns-clause-cut g c =
    let contents = g.W.Write.contents in
    if_none c.flush.result _
    (flush_stops (contents c.args.writer.now.device) (contents c.write_all.new.writer.device) (contents c.flush.new.self.device) c.args.text.now []
    (written_all (contents c.args.writer.now.device) (contents c.write_all.new.writer.device) c.args.text.now c.in_ok-write_all.ensures.written) c.flush.ensures.bytes)
