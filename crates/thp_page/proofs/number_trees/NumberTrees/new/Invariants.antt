use Rattle.std.proofs.Common.{◌≡◌, ◌≤◌, ◌+◌, ◌*◌, replicate, vec_capacity}
use Rattle.thp_links.specs.declared.link.TheConstants.{NIL}
use Rattle.thp_page.proofs.number_trees.NumberTrees.new.Given as goal

-- no bucket so far has a root
abbrev pub invariant-loop-bucket : goal.invariant-loop-bucket
invariant-loop-bucket l = record {
  none : l.roots.items ≡ replicate l._bucket NIL;
  room : 8192 + 2 * l.blocks ≤ vec_capacity l.roots;
}
