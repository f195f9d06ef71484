-- The queue stands in the table, and holds all its blocks.
use Rattle.std.proofs.Common.{◌≡◌, ℕ, ◌<◌, length, Contains}
use Rattle.thp_links.specs.Prelude.{Stands}
use Rattle.bench_nodes.proofs.tables.links.time_returns.Given as goal

abbrev pub invariant-loop-round : goal.invariant-loop-round
invariant-loop-round g l = record {
  size : length l.table.links ≡ l.blocks;
  stands : Stands l.queue l.table.links;
  all : (j : ℕ) → j < l.blocks → Contains l.queue j;
  inside : l.i < l.blocks;
}
