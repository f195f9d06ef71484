use Rattle.std.proofs.Common.{◌≡◌, [], length, false}
use Rattle.thp_cli.proofs.DeviceLaws.{Written}
use Rattle.thp_cli.specs.Prelude.{Follow}
use Rattle.thp_run.proofs.running.write_parts.Given as goal

abbrev pub decreases-loop-writer : goal.decreases-loop-writer
decreases-loop-writer g l = length l.parts.rest

abbrev pub invariant-loop-writer : goal.invariant-loop-writer
invariant-loop-writer g l =
    let contents = g.W.Write.contents in
    record {
      written : Written (contents l.fn.writer.device) (contents l.writer.device) l.fn.parts.rest l.parts.rest;
      flag : l.writer.failed ≡ false;
      calls : Follow [] l.fn.writer.calls l.writer.calls;
    }
