use Rattle.std.proofs.Common.{length}
use Rattle.thp_journal_scripts.proofs.script_text.+put_thresholds.Given as goal

abbrev pub decreases-put_thresholds : goal.decreases-put_thresholds
decreases-put_thresholds l = length l.shapes.now
