use Rattle.std.proofs.Common.{length}
use Rattle.thp_journal_scripts.proofs.script_text.+put_orders.Given as goal

abbrev pub decreases-put_orders : goal.decreases-put_orders
decreases-put_orders l = length l.shapes.now
