use Rattle.std.proofs.Common.{◌≡◌, ◌+◌, ◌++◌, ℕ, List, length, false}
use Rattle.std.specs.Io.KnownBytes.{Appends, Consumes}
use Rattle.thp_script.specs.Prelude.{max_counted}
use Rattle.thp_cli.proofs.CallLaws.{Reading}
use Rattle.thp_journal_reader.specs.Prelude.{journals_for_scripts, result_with}
use Rattle.thp_journal_tools.specs.Scripting.{WriterGrows}
use Rattle.thp_journal_tools.proofs.scripting.write_parts.Given as goal

abbrev pub decreases-loop-count : goal.decreases-loop-count
decreases-loop-count g l = l.left

-- the bytes that were read, and the text that was written
abbrev pub invariant-loop-count : goal.invariant-loop-count
invariant-loop-count g l =
    let remaining = g.R.Read.remaining in
    let contents = g.W.Write.contents in
    record {
      taken : (bytes : List ℕ) × Consumes (remaining l.fn.reader.device) (remaining l.reader.device) bytes × (length bytes + l.left ≡ max_counted) × ((more : List ℕ) → result_with l.check.read more ≡ journals_for_scripts (bytes ++ more));
      flag : l.reader.failed ≡ false;
      calls : Reading max_counted l.left l.fn.reader.calls l.reader.calls;
      grows : WriterGrows (contents l.fn.writer.device) (contents l.writer.device);
      text : Appends (contents l.fn.writer.device) (contents l.writer.device) l.check.taken;
      writes : l.writer.failed ≡ false;
    }
