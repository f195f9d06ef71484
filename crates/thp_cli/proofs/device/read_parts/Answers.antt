use Rattle.std.proofs.Common.{◌∙◌, ◌++◌, [], arith, refl, rules, take, length-append, length-take-le}
use Rattle.thp_cli.proofs.CallLaws.{reading_more, reading_none, reads_by}
use Rattle.thp_cli.proofs.DeviceLaws.{read_all, read_beyond, read_more, read_nothing}
use Rattle.thp_cli.proofs.device.read_parts.Goals as goal

pub loop-count-init : goal.loop-count-init
loop-count-init g c = record { taken = ([], read_nothing (g.R.Read.remaining c.args.reader.now.device), omega arith, g.met.P.ReadsParts.nothing_read c.args.first); flag = c.requires; calls = reading_none c.args.most c.args.reader.now.calls }

pub returns-then-count-eq0-clause-parts : goal.returns-then-count-eq0-clause-parts
returns-then-count-eq0-clause-parts g c =
    let remaining = g.R.Read.remaining in
    let t = c.loop-count.invariant.taken in
    let read = rw c.in-Some.is at c.read.ensures.bytes in
    (t.0, read_all c.args.most (remaining c.args.reader.now.device) (remaining c.loop-count.reader.device) (remaining c.read.new.self.device) t.0 _ t.1 read.1 (rw c.if-count-eq0.true refl) (search rules), t.3)

pub loop-count-preserved : goal.loop-count-preserved
loop-count-preserved g c =
    let remaining = g.R.Read.remaining in
    let t = c.loop-count.invariant.taken in
    let read = rw c.in-Some.is at c.read.ensures.bytes in
    let piece = take c.in-Some.count c.read.new.buf in
    record {
      taken = (
        t.0 ++ piece,
        read_more (remaining c.args.reader.now.device) (remaining c.loop-count.reader.device) (remaining c.read.new.self.device) t.0 piece t.1 read.1,
        omega (arith, length-append t.0 piece, length-take-le c.in-Some.count c.read.new.buf read.0, t.2),
        g.met.P.ReadsParts.more_read c.args.first c.loop-count.text c.in_ok-text.text t.0 piece t.3 c.in_ok-text.ensures.read,
      );
      flag = (rw c.in-Some.is at c.read.ensures.flag_stays) ∙ c.loop-count.invariant.flag;
      calls = reading_more c.args.most c.loop-count.left c.in-Some.count _ c.args.reader.now.calls c.loop-count.reader.calls c.read.new.self.calls c.loop-count.invariant.calls (omega (arith, c.if-count-eq0.false)) (omega (arith, c.if-count-left.false)) (search rules) (rw c.in-Some.is at c.read.ensures.calls);
    }

pub returns-in_default-clause-calls : goal.returns-in_default-clause-calls
returns-in_default-clause-calls g c = reads_by c.args.most c.loop-count.left _ c.read.new.self.failed c.loop-count.reader.failed c.read.result c.args.reader.now.calls c.loop-count.reader.calls c.read.new.self.calls c.loop-count.invariant.calls c.loop-count.invariant.flag (search rules) c.read.ensures.calls c.read.ensures.failed c.read.ensures.flag_stays

pub returns-then-count-eq0-clause-calls : goal.returns-then-count-eq0-clause-calls
returns-then-count-eq0-clause-calls g c = reads_by c.args.most c.loop-count.left _ c.read.new.self.failed c.loop-count.reader.failed c.read.result c.args.reader.now.calls c.loop-count.reader.calls c.read.new.self.calls c.loop-count.invariant.calls c.loop-count.invariant.flag (search rules) c.read.ensures.calls c.read.ensures.failed c.read.ensures.flag_stays

pub returns-in_err-text-clause-calls : goal.returns-in_err-text-clause-calls
returns-in_err-text-clause-calls g c = reads_by c.args.most c.loop-count.left _ c.read.new.self.failed c.loop-count.reader.failed c.read.result c.args.reader.now.calls c.loop-count.reader.calls c.read.new.self.calls c.loop-count.invariant.calls c.loop-count.invariant.flag (search rules) c.read.ensures.calls c.read.ensures.failed c.read.ensures.flag_stays

pub returns-then-count-left-clause-parts : goal.returns-then-count-left-clause-parts
returns-then-count-left-clause-parts g c =
    let remaining = g.R.Read.remaining in
    let t = c.loop-count.invariant.taken in
    let read = rw c.in-Some.is at c.read.ensures.bytes in
    let piece = take c.in-Some.count c.read.new.buf in (
      t.0 ++ piece,
      read_beyond c.args.most (remaining c.args.reader.now.device) (remaining c.read.new.self.device) (t.0 ++ piece)
          (read_more (remaining c.args.reader.now.device) (remaining c.loop-count.reader.device) (remaining c.read.new.self.device) t.0 piece t.1 read.1)
          (omega (arith, length-append t.0 piece, length-take-le c.in-Some.count c.read.new.buf read.0, t.2, c.if-count-left.true)),
      g.met.P.ReadsParts.more_read c.args.first c.loop-count.text c.in_ok-text.text t.0 piece t.3 c.in_ok-text.ensures.read,
    )

pub returns-then-count-left-clause-calls : goal.returns-then-count-left-clause-calls
returns-then-count-left-clause-calls g c = reads_by c.args.most c.loop-count.left _ c.read.new.self.failed c.loop-count.reader.failed c.read.result c.args.reader.now.calls c.loop-count.reader.calls c.read.new.self.calls c.loop-count.invariant.calls c.loop-count.invariant.flag (search rules) c.read.ensures.calls c.read.ensures.failed c.read.ensures.flag_stays
