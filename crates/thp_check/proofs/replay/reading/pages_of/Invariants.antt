use Rattle.std.proofs.Common.{◌≡◌, ◌≤◌, length, map, take, vec_len, vec_capacity}
use Rattle.thp_check.specs.Prelude.{page_at}
use Rattle.thp_check.proofs.replay.reading.pages_of.Given as goal

-- the pages of the blocks passed, with room for all
abbrev pub invariant-loop-block : goal.invariant-loop-block
invariant-loop-block l = record {
  pages : l.pages.items ≡ map (page_at l.places.table) (take l.block-index l.blocks);
  count : vec_len l.pages ≡ l.block-index;
  room : length l.blocks ≤ vec_capacity l.pages;
}
