-- The queue stands in the table, and holds the indices below `i`.
use Rattle.std.proofs.Common.{◌≡◌, ℕ, ◌<◌, length, Contains}
use Rattle.thp_links.specs.Prelude.{Stands}
use Rattle.tests_pages.proofs.counting.filled.Given as goal

abbrev pub invariant-loop-i : goal.invariant-loop-i
invariant-loop-i g l = record {
  size : length (g.T.LinkTable.links l.table.table) ≡ length (g.T.LinkTable.links l.fn.table);
  stands : Stands l.queue (g.T.LinkTable.links l.table.table);
  below : (j : ℕ) → Contains l.queue j → j < l.i;
  all : (j : ℕ) → j < l.i → Contains l.queue j;
}
