use Rattle.std.proofs.Common.{◌≡◌, ◌≤◌, ℕ, List, [], replicate, vec_capacity}
use Rattle.thp_check.proofs.flights.Flights.new.Given as goal

-- the lists so far have no block, and there is room for all
abbrev pub invariant-loop-list : goal.invariant-loop-list
invariant-loop-list l = record {
  none : ◌≡◌ {A = List (List ℕ)} l.lists.items (replicate l._list []);
  room : 4096 ≤ vec_capacity l.lists;
}
