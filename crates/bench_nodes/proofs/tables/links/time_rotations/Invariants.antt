-- The queue stands in the table.
use Rattle.thp_links.specs.Prelude.{Stands}
use Rattle.bench_nodes.proofs.tables.links.time_rotations.Given as goal

abbrev pub invariant-loop-round : goal.invariant-loop-round
invariant-loop-round g l = Stands l.queue l.table.links
