use Rattle.std.proofs.Common.{◌≡◌, length, false}
use Rattle.thp_cli.proofs.DeviceLaws.{Written}
use Rattle.thp_cli.proofs.CallLaws.{Writing}
use Rattle.thp_cli.proofs.device.write_all.Given as goal

abbrev pub decreases-loop-rest : goal.decreases-loop-rest
decreases-loop-rest g l = length l.rest

abbrev pub invariant-loop-rest : goal.invariant-loop-rest
invariant-loop-rest g l =
    let contents = g.W.Write.contents in
    record {
      written : Written (contents l.fn.writer.device) (contents l.writer.device) l.text l.rest;
      flag : l.writer.failed ≡ false;
      calls : Writing (length l.text) (length l.rest) l.fn.writer.calls l.writer.calls;
    }
