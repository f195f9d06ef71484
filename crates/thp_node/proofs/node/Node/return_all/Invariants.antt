use Rattle.std.proofs.Common.{◌≡◌, count_by, take}
use Rattle.thp_history.specs.Prelude.{flight, goes_back}
use Rattle.thp_node.specs.Prelude.{Did, return_first}
use Rattle.thp_node.proofs.node.Node.return_all.Given as goal

abbrev pub invariant-loop-block : goal.invariant-loop-block
invariant-loop-block g l = record {
  did : Did l.fn.self l.self l.fn.caller (return_first l.fn.self.shape l.fn.self.journal l.fn.caller l.block-index);
  back : l.back ≡ count_by (goes_back l.fn.self.shape l.fn.self.journal) (take l.block-index (flight l.fn.self.journal l.fn.caller));
}
