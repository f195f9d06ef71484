use Rattle.std.proofs.Common.{◌≡◌, length}
use Rattle.tests_texts.proofs.drawing.large.busy_node.Given as goal

-- a prefix for each number so far
abbrev pub invariant-loop-number : goal.invariant-loop-number
invariant-loop-number g l = length l.columns ≡ l.number
