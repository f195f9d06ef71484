use Rattle.std.proofs.Common.{◌∙◌, ◌++◌, [], arith, refl, rules, take, true, length-append, length-take-le}
use Rattle.thp_cli.proofs.CallLaws.{reading_more, reading_none, reads_by}
use Rattle.thp_cli.proofs.DeviceLaws.{read_beyond, read_more, read_nothing}
use Rattle.thp_script.specs.Prelude.{max_counted}
use Rattle.thp_journal_tools.proofs.CountLaws.{events_at_most}
use Rattle.thp_journal_tools.proofs.ProgressLaws.{shown_more, shown_none}
use Rattle.thp_journal_tools.proofs.progress.read_on.Goals as goal

pub loop-count-init : goal.loop-count-init
loop-count-init g c = record {
  taken = (
    [],
    read_nothing (g.R.Read.remaining c.args.reader.now.device),
    omega arith,
    g.met.P.ReadsParts.nothing_read c.args.first,
    c.requires.nothing,
    shown_none g.S.Write.contents c.args.screen.now.writer c.args.progress.now.program c.args.progress.now.stands c.requires.screen c.requires.empty,
  );
  program = refl;
  flag = c.requires.reader;
  calls = reading_none max_counted c.args.reader.now.calls;
}

pub loop-count-preserved : goal.loop-count-preserved
loop-count-preserved g c =
    let remaining = g.R.Read.remaining in
    let t = c.loop-count.invariant.taken in
    let read = rw c.in-Some.is at c.read.ensures.bytes in
    let piece = take c.in-Some.count c.read.new.buf in
    let counted = c.look.ensures.counted t.0 t.4 in
    record {
      taken = (
        t.0 ++ piece,
        read_more (remaining c.args.reader.now.device) (remaining c.loop-count.reader.device) (remaining c.read.new.self.device) t.0 piece t.1 read.1,
        omega (arith, length-append t.0 piece, length-take-le c.in-Some.count c.read.new.buf read.0, t.2, c.if-count-left.false),
        g.met.P.ReadsParts.more_read c.args.first c.loop-count.text c.in_ok-text.text t.0 piece t.3 c.in_ok-text.ensures.read,
        counted,
        shown_more g.S.Write.contents c.args.screen.now.writer c.args.progress.now.program c.look.new.self (c.look.ensures.program ∙ c.loop-count.invariant.program) t.0 piece c.loop-count.progress.stands c.loop-count.screen.writer c.look.new.screen.writer t.5 counted c.look.ensures.shown,
      );
      program = c.look.ensures.program ∙ c.loop-count.invariant.program;
      flag = (rw c.in-Some.is at c.read.ensures.flag_stays) ∙ c.loop-count.invariant.flag;
      calls = reading_more max_counted c.loop-count.left c.in-Some.count _ c.args.reader.now.calls c.loop-count.reader.calls c.read.new.self.calls c.loop-count.invariant.calls (omega (arith, c.if-count-eq0.false)) (omega (arith, c.if-count-left.false)) (search rules) (rw c.in-Some.is at c.read.ensures.calls);
    }

pub look-requires-clause-counted : goal.look-requires-clause-counted
look-requires-clause-counted g c =
    let t = c.loop-count.invariant.taken in
    omega (arith, t.4.bytes_are, t.4.events_are, events_at_most true t.0)

pub returns-then-count-left-clause-parts : goal.returns-then-count-left-clause-parts
returns-then-count-left-clause-parts g c =
    let remaining = g.R.Read.remaining in
    let t = c.loop-count.invariant.taken in
    let read = rw c.in-Some.is at c.read.ensures.bytes in
    let piece = take c.in-Some.count c.read.new.buf in (
      t.0 ++ piece,
      read_beyond max_counted (remaining c.args.reader.now.device) (remaining c.read.new.self.device) (t.0 ++ piece)
          (read_more (remaining c.args.reader.now.device) (remaining c.loop-count.reader.device) (remaining c.read.new.self.device) t.0 piece t.1 read.1)
          (omega (arith, length-append t.0 piece, length-take-le c.in-Some.count c.read.new.buf read.0, t.2, c.if-count-left.true)),
      g.met.P.ReadsParts.more_read c.args.first c.loop-count.text c.in_ok-text.text t.0 piece t.3 c.in_ok-text.ensures.read,
    )

pub returns-in_default-clause-calls : goal.returns-in_default-clause-calls
returns-in_default-clause-calls g c = reads_by max_counted c.loop-count.left _ c.read.new.self.failed c.loop-count.reader.failed c.read.result c.args.reader.now.calls c.loop-count.reader.calls c.read.new.self.calls c.loop-count.invariant.calls c.loop-count.invariant.flag (search rules) c.read.ensures.calls c.read.ensures.failed c.read.ensures.flag_stays

pub returns-then-count-eq0-clause-calls : goal.returns-then-count-eq0-clause-calls
returns-then-count-eq0-clause-calls g c = reads_by max_counted c.loop-count.left _ c.read.new.self.failed c.loop-count.reader.failed c.read.result c.args.reader.now.calls c.loop-count.reader.calls c.read.new.self.calls c.loop-count.invariant.calls c.loop-count.invariant.flag (search rules) c.read.ensures.calls c.read.ensures.failed c.read.ensures.flag_stays

pub returns-in_err-text-clause-calls : goal.returns-in_err-text-clause-calls
returns-in_err-text-clause-calls g c = reads_by max_counted c.loop-count.left _ c.read.new.self.failed c.loop-count.reader.failed c.read.result c.args.reader.now.calls c.loop-count.reader.calls c.read.new.self.calls c.loop-count.invariant.calls c.loop-count.invariant.flag (search rules) c.read.ensures.calls c.read.ensures.failed c.read.ensures.flag_stays

pub returns-then-count-left-clause-calls : goal.returns-then-count-left-clause-calls
returns-then-count-left-clause-calls g c = reads_by max_counted c.loop-count.left _ c.read.new.self.failed c.loop-count.reader.failed c.read.result c.args.reader.now.calls c.loop-count.reader.calls c.read.new.self.calls c.loop-count.invariant.calls c.loop-count.invariant.flag (search rules) c.read.ensures.calls c.read.ensures.failed c.read.ensures.flag_stays
