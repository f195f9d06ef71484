use Rattle.thp_cell.proofs.Crossings.{sharing}
use Rattle.demo_shared_node.proofs.used_by_two.Goals as goal

pub join-first-requires-send-F : goal.join-first-requires-send-F
join-first-requires-send-F g c κs within = search sharing depth 30

pub join-first-requires-send-A : goal.join-first-requires-send-A
join-first-requires-send-A g c κs within = search sharing depth 30
