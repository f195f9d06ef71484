use Rattle.std.proofs.Common.{length, refl, rules, length-drop}
use Rattle.thp_cli.proofs.CallLaws.{writing_more, writes_all, writes_failed}
use Rattle.thp_cli.proofs.DeviceLaws.{write_more}
use Rattle.thp_cli.proofs.device.write_all.Goals as goal

pub loop-rest-preserved : goal.loop-rest-preserved
loop-rest-preserved g c =
    let contents = g.W.Write.contents in
    record {
      written = rw c.split_at.ensures.back (write_more (contents c.args.writer.now.device) (contents c.loop-rest.writer.device) (contents c.write.new.self.device)
          c.args.text.now c.loop-rest.rest.now c.in_ok-count.count c.loop-rest.invariant.written c.in_ok-count.ensures.bytes.2);
      flag = search rules;
      calls = rw (c.split_at.ensures.back, length-drop c.in_ok-count.count c.loop-rest.rest.now) (writing_more (length c.args.text.now) (length c.loop-rest.rest.now) c.in_ok-count.count (length c.loop-rest.rest.now) c.args.writer.now.calls c.loop-rest.writer.calls c.write.new.self.calls c.loop-rest.invariant.calls c.in_ok-count.ensures.bytes.1 refl (search rules));
    }

pub returns-in_err-count-clause-calls : goal.returns-in_err-count-clause-calls
returns-in_err-count-clause-calls g c =
    writes_failed (length c.args.text.now) (length c.loop-rest.rest.now) (length c.loop-rest.rest.now) c.write.new.self.failed c.args.writer.now.calls c.loop-rest.writer.calls c.write.new.self.calls c.loop-rest.invariant.calls refl (search rules) (search rules)

pub returns-clause-calls : goal.returns-clause-calls
returns-clause-calls g c = writes_all (length c.args.text.now) (length c.loop-rest.rest.now) c.loop-rest.writer.failed c.args.writer.now.calls c.loop-rest.writer.calls c.loop-rest.invariant.calls (search rules) c.loop-rest.invariant.flag
