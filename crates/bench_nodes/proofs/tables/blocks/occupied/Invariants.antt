-- No call changes how many blocks there are.
use Rattle.std.proofs.Common.{◌≡◌, length}
use Rattle.bench_nodes.proofs.tables.blocks.occupied.Given as goal

abbrev pub invariant-loop-block : goal.invariant-loop-block
invariant-loop-block l = length l.table.links ≡ l.blocks
