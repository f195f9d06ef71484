use Rattle.std.proofs.Common.{◌≡◌, ◌+◌, ◌≤◌, length, take, get_or, vec_len, vec_capacity}
use Rattle.thp_links.specs.declared.link.TheConstants.{NIL}
use Rattle.thp_page.specs.Prelude.{SameSlots}
use Rattle.thp_live_pages.proofs.page_store.blocks_of.Given as goal

-- the blocks passed, with room for all, and that of the next place; of the table nothing changed but the count
abbrev pub invariant-loop-place : goal.invariant-loop-place
invariant-loop-place l = record {
  next : l.block ≡ get_or l.queue l._place NIL;
  count : vec_len l.blocks ≡ l._place;
  room : length l.queue ≤ vec_capacity l.blocks;
  found : l.blocks.items ≡ take l._place l.queue;
  links : l.table.links ≡ l.fn.table.links;
  rest : SameSlots l.fn.table l.table;
  work : l.table.accesses ≤ l.fn.table.accesses + l._place;
}
