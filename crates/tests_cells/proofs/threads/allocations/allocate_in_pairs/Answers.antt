use denote.Param.Send.{param_send, arg_send}
use Rattle.thp_cell.proofs.Crossings.{crossings, sharing}
use Rattle.tests_cells.proofs.threads.allocations.allocate_in_pairs.Goals as goal

pub join-requires-send-F : goal.join-requires-send-F
join-requires-send-F g c κs within = search sharing depth 30

pub join-requires-send-A : goal.join-requires-send-A
join-requires-send-A g c κs within = search (param_send, arg_send, crossings) depth 40
