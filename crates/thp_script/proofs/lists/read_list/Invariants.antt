use Rattle.std.proofs.Common.{◌≡◌, ◌+◌, ◌≤◌, length, option_copied}
use Rattle.thp_script.specs.Prelude.{max_nodes, all_read, items_of, pieces_left}
use Rattle.thp_script.proofs.ListLaws.{behind}
use Rattle.thp_script.proofs.lists.read_list.Given as goal

-- what was read, with what the rest is read as, is what the whole list is read as
abbrev pub invariant-loop-rest : goal.invariant-loop-rest
invariant-loop-rest g l =
    let rest = pieces_left 44 (option_copied l.rest) in
    record {
      read : all_read g.T.Item.item_of (items_of l.text) ≡ behind l.items.items (all_read g.T.Item.item_of rest);
      count : length (items_of l.text) ≡ length l.items.items + length rest;
      room : length l.items.items ≤ max_nodes;
    }

abbrev pub decreases-loop-rest : goal.decreases-loop-rest
decreases-loop-rest g l = length (pieces_left 44 (option_copied l.rest))
