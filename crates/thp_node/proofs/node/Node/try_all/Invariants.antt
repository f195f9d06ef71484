use Rattle.std.proofs.Common.{◌≡◌, count_by, take, drop, map}
use Rattle.thp_history.specs.Prelude.{try_event}
use Rattle.thp_node.specs.Prelude.{rest, Did, is_tried_used}
use Rattle.thp_node.proofs.node.Node.try_all.Given as goal

abbrev pub invariant-loop-tried : goal.invariant-loop-tried
invariant-loop-tried g l = record {
  did : Did l.fn.self l.self l.fn.batch.caller (map (try_event l.fn.self.shape l.fn.self.journal l.fn.batch.caller) (take l._tried l.fn.batch.pages));
  used : l.used ≡ count_by (is_tried_used l.fn.self.shape l.fn.self.journal) (take l._tried l.fn.batch.pages);
  left : rest l.batch ≡ drop l._tried l.fn.batch.pages;
  caller : l.batch.caller ≡ l.fn.batch.caller;
  pages : l.batch.pages ≡ l.fn.batch.pages;
}
