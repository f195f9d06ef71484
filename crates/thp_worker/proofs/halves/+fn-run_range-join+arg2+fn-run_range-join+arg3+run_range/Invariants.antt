use Rattle.std.proofs.Common.{◌*◌, ◌+◌, length}
use Rattle.thp_worker.proofs.halves.+fn-run_range-join+arg2+fn-run_range-join+arg3+run_range.Given as goal

abbrev pub decreases-join+arg2 : goal.decreases-join+arg2
decreases-join+arg2 g l = 2 * length l.low.now + 1

abbrev pub decreases-join+arg3 : goal.decreases-join+arg3
decreases-join+arg3 g l = 2 * length l.high.now + 1

abbrev pub decreases-run_range : goal.decreases-run_range
decreases-run_range g l = 2 * length l.workers.now
