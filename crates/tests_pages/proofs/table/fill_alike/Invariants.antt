-- No call changes how many blocks there are.
use Rattle.std.proofs.Common.{◌≡◌, length}
use Rattle.tests_pages.proofs.table.fill_alike.Given as goal

abbrev pub invariant-loop-block : goal.invariant-loop-block
invariant-loop-block g l = length l.table.links ≡ 20000
