use Rattle.thp_page.proofs.TreeSteps.{IsBelow}
use Rattle.thp_page.proofs.number_trees.NumberTrees.leaf_below.Given as goal

-- the walk has come down to a block, at least this deep
abbrev pub invariant-loop-depth : goal.invariant-loop-depth
invariant-loop-depth l = IsBelow l.self l.fn.place l.leaf l._depth
