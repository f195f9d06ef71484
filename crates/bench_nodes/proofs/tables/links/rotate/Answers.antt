-- The block that was taken out of the queue can be pushed again.
use Rattle.std.proofs.Common.{◌∙◌, sym}
use Rattle.thp_links.proofs.OneTable.{absent-popped}
use Rattle.bench_nodes.proofs.tables.links.rotate.Goals as goal

pub push_back-requires-clause-absent : goal.push_back-requires-clause-absent
push_back-requires-clause-absent c = absent-popped c.in_ok-i.i c.args.queue.now c.pop_front.new.self c.pop_front.ensures.list c.requires.distinct (sym c.pop_front.ensures.value ∙ c.in_ok-i.was)
