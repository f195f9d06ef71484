use Rattle.std.proofs.Common.{◌≡◌, ◌+◌, ℕ, List, length, false}
use Rattle.std.specs.Io.KnownBytes.{Consumes}
use Rattle.thp_cli.proofs.CallLaws.{Reading}
use Rattle.thp_cli.proofs.device.read_parts.Given as goal

abbrev pub decreases-loop-count : goal.decreases-loop-count
decreases-loop-count g l = l.left

-- the bytes that were read, which have come since the first reader
abbrev pub invariant-loop-count : goal.invariant-loop-count
invariant-loop-count g l =
    let remaining = g.R.Read.remaining in
    record {
      taken : (bytes : List ℕ) × Consumes (remaining l.fn.reader.device) (remaining l.reader.device) bytes × (length bytes + l.left ≡ l.fn.most) × g.P.ReadsParts.has_read l.fn.first bytes l.text;
      flag : l.reader.failed ≡ false;
      calls : Reading l.fn.most l.left l.fn.reader.calls l.reader.calls;
    }
