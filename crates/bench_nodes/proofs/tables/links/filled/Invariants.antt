-- The queue stands in the table, and holds the blocks below `i`.
use Rattle.std.proofs.Common.{◌≡◌, ℕ, ◌<◌, length, Contains}
use Rattle.thp_links.specs.Prelude.{Stands}
use Rattle.bench_nodes.proofs.tables.links.filled.Given as goal

abbrev pub invariant-loop-i : goal.invariant-loop-i
invariant-loop-i l = record {
  size : length l.table.links ≡ l.blocks;
  stands : Stands l.queue l.table.links;
  below : (j : ℕ) → Contains l.queue j → j < l.i;
  all : (j : ℕ) → j < l.i → Contains l.queue j;
}
