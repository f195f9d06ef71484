-- No call changes how many blocks there are.
use Rattle.std.proofs.Common.{◌≡◌, length}
use Rattle.tests_pages.proofs.table.change_often.Given as goal

abbrev pub invariant-loop-step : goal.invariant-loop-step
invariant-loop-step g l = length l.table.links ≡ 64
