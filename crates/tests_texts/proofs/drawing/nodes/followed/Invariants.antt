use Rattle.std.proofs.Common.{◌≡◌, length, None}
use Rattle.tests_texts.proofs.drawing.nodes.followed.Given as goal

-- so many events happened on a large node
abbrev pub invariant-loop-what : goal.invariant-loop-what
invariant-loop-what g l = record {
  shape : l.node.shape ≡ record { blocks = 16; order = 9; underused = None };
  count : length l.node.history ≡ l.what-index;
}
