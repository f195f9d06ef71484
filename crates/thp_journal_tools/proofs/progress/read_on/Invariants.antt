use Rattle.std.proofs.Common.{◌≡◌, ◌+◌, ℕ, List, length, false}
use Rattle.std.specs.Io.KnownBytes.{Consumes}
use Rattle.thp_cli.proofs.CallLaws.{Reading}
use Rattle.thp_cli.specs.Prelude.{device_of}
use Rattle.thp_script.specs.Prelude.{max_counted}
use Rattle.thp_journal_tools.specs.Reaching.{HasCounted, HasShown}
use Rattle.thp_journal_tools.proofs.progress.read_on.Given as goal

abbrev pub decreases-loop-count : goal.decreases-loop-count
decreases-loop-count g l = l.left

-- the bytes that were read, which have come since the first reader, and what was shown of them
abbrev pub invariant-loop-count : goal.invariant-loop-count
invariant-loop-count g l =
    let remaining = g.R.Read.remaining in
    record {
      taken : (bytes : List ℕ) × Consumes (remaining l.fn.reader.device) (remaining l.reader.device) bytes × (length bytes + l.left ≡ max_counted) × g.P.ReadsParts.has_read l.fn.first bytes l.text
          × HasCounted l.progress bytes × HasShown l.fn.progress.program bytes l.progress.stands (device_of g.S.Write.contents l.fn.screen.writer l.screen.writer);
      program : l.progress.program ≡ l.fn.progress.program;
      flag : l.reader.failed ≡ false;
      calls : Reading max_counted l.left l.fn.reader.calls l.reader.calls;
    }
