use Rattle.std.proofs.Common.{length}
use Rattle.thp_journal_scripts.proofs.script_text.+most_blocks.Given as goal

abbrev pub decreases-most_blocks : goal.decreases-most_blocks
decreases-most_blocks l = length l.shapes.now
