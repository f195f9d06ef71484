use Rattle.thp_cell.proofs.Crossings.{sharing}
use Rattle.bench_nodes.proofs.cells.threads.pair.Goals as goal

pub join-requires-send-F : goal.join-requires-send-F
join-requires-send-F g c κs within = search sharing depth 30

pub join-requires-send-A : goal.join-requires-send-A
join-requires-send-A g c κs within = search sharing depth 30
