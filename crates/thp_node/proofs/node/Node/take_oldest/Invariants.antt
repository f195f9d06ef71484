use Rattle.std.proofs.Common.{◌≡◌, ◌+◌, ◌≤◌, length, take}
use Rattle.thp_history.specs.Prelude.{queue, flight}
use Rattle.thp_node.specs.Prelude.{Took}
use Rattle.thp_node.proofs.node.Node.take_oldest.Given as goal

abbrev pub invariant-loop-taken : goal.invariant-loop-taken
invariant-loop-taken g l = record {
  took : Took l.fn.self l.self l.caller l._taken;
  batch : l.batch ≡ record { caller = l.caller; pages = take l._taken (queue l.fn.self.shape l.fn.self.journal); place = 0 };
  room : l.count ≤ l.self.room + l._taken;
  flying : length (flight l.self.journal l.caller) ≡ l._taken;
}
