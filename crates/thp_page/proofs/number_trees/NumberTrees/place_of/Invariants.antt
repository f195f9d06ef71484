use Rattle.std.proofs.Common.{◌≡◌}
use Rattle.thp_page.specs.Prelude.{HasPlace, block_in}
use Rattle.thp_page.proofs.TreeSteps.{Hangs, Sought}
use Rattle.thp_page.proofs.number_trees.NumberTrees.place_of.Given as goal

-- the search has come down to the place
abbrev pub invariant-loop-depth : goal.invariant-loop-depth
invariant-loop-depth l = record {
  same : l.id ≡ l.fn.id;
  inside : HasPlace l.self l.place;
  at : l.block ≡ block_in l.self l.place;
  sought : (h : Hangs l.self) → Sought l.self h l.fn.id l.depth l.place;
}
