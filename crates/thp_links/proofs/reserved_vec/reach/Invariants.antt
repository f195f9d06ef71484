use Rattle.std.proofs.Common.{◌≡◌, ◌+◌, ◌-◌, ◌≤◌, ◌++◌, length, replicate, vec_capacity}
use Rattle.thp_links.proofs.reserved_vec.reach.Given as goal

-- blanks were added, none beyond the place
abbrev pub invariant-loop-blank : goal.invariant-loop-blank
invariant-loop-blank g l = record {
  blanks : l.items.items ≡ l.initial.items.items ++ replicate (length l.items.items - length l.initial.items.items) l.blank;
  grown : length l.initial.items.items ≤ length l.items.items;
  few : length l.items.items ≤ l.place + 1;
  reserved : vec_capacity l.items ≡ vec_capacity l.initial.items;
}

-- the places that are left to reach
abbrev pub decreases-loop-blank : goal.decreases-loop-blank
decreases-loop-blank g l = l.place + 1 - length l.items.items
