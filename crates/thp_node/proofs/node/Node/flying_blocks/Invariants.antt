use Rattle.std.proofs.Common.{◌≡◌, ◌≤◌, Some, length, map, take}
use Rattle.thp_history.specs.Prelude.{still_flying}
use Rattle.thp_live_pages.specs.Prelude.{block_of}
use Rattle.thp_node.proofs.node.Node.flying_blocks.Given as goal

abbrev pub invariant-loop-page : goal.invariant-loop-page
invariant-loop-page g l = record {
  blocks : map (block_of l.fn.self.journal) (still_flying l.fn.self.journal l.fn.caller (take l.page-index l.fn.pages)) ≡ map (λ b. Some b) l.blocks.items;
  few : length l.blocks.items ≤ l.page-index;
}
