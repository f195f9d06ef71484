-- Each block is above those that were pushed before it.
use Rattle.std.proofs.Common.{◌<◌, ◌∙◌, arith}
use Rattle.bench_nodes.proofs.Pushes.{below_more, all_more}
use Rattle.bench_nodes.proofs.tables.links.filled.Goals as goal

pub push_back-requires-clause-absent : goal.push_back-requires-clause-absent
push_back-requires-clause-absent c m =
    let i = c.loop-i.i in
    let itself : i < i = c.loop-i.invariant.below i m in
    omega arith

pub loop-i-preserved : goal.loop-i-preserved
loop-i-preserved c =
    let i = c.loop-i.i in
    let list = c.push_back.ensures.list in
    record {
      size = c.push_back.ensures.outside.same_length ∙ c.loop-i.invariant.size;
      stands = c.push_back.ensures.stands;
      below = below_more i c.loop-i.queue _ list c.loop-i.invariant.below;
      all = all_more i c.loop-i.queue _ list c.loop-i.invariant.all;
    }
