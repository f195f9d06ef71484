use Rattle.std.proofs.Common.{ℕ, ◌≡◌, ◌≤◌, ◌<◌, ◌+◌, ◌-◌, ◌++◌, Option, None, length, replicate}
use Rattle.thp_page.specs.Prelude.{HasTreeRoom, IsSearchable}
use Rattle.thp_page.proofs.page_numbers.extend.Given as goal

-- blocks without numbers were added, no more than up to this one
abbrev pub invariant-loop-trees : goal.invariant-loop-trees
invariant-loop-trees l = record {
  searchable : IsSearchable l.trees;
  grown : ◌≡◌ l.trees.numbers.items (l.fn.trees.numbers.items ++ replicate (length l.trees.numbers.items - length l.fn.trees.numbers.items) None);
  more : length l.fn.trees.numbers.items ≤ length l.trees.numbers.items;
  few : length l.trees.numbers.items ≤ l.block + 1;
  room : HasTreeRoom l.blocks l.trees;
}

abbrev pub decreases-loop-trees : goal.decreases-loop-trees
decreases-loop-trees l = l.block + 1 - length l.trees.numbers.items
