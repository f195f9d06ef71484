-- The block that was taken out of the queue can be pushed again, and then all are there.
use Rattle.std.proofs.Common.{◌∙◌}
use Rattle.thp_links.proofs.OneTable.{one_table}
use Rattle.bench_nodes.proofs.Pushes.{all_again}
use Rattle.bench_nodes.proofs.tables.links.time_returns.Goals as goal

pub push_back-requires-clause-absent : goal.push_back-requires-clause-absent
push_back-requires-clause-absent g c = search one_table

pub loop-round-preserved : goal.loop-round-preserved
loop-round-preserved g c = record {
  size = c.push_back.ensures.outside.same_length ∙ c.remove.ensures.outside.same_length ∙ c.loop-round.invariant.size;
  stands = c.push_back.ensures.stands;
  all = all_again c.args.blocks c.loop-round.i c.loop-round.queue _ _ c.remove.ensures.list c.push_back.ensures.list c.loop-round.invariant.all;
  inside = c.after-i.ensures;
}
