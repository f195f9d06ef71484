use Rattle.std.proofs.Common.{◌≡◌, ◌≤◌, ◌+◌, ◌-◌, ◌++◌, length, replicate, vec_capacity}
use Rattle.thp_page.specs.Prelude.{blank_descriptor}
use Rattle.thp_page.proofs.page_table.extend.Given as goal

-- blank descriptors were appended, no more than up to the block's
abbrev pub invariant-loop-descriptors : goal.invariant-loop-descriptors
invariant-loop-descriptors l = record {
  blank : l.descriptors.items ≡ l.fn.descriptors.items ++ replicate (length l.descriptors.items - length l.fn.descriptors.items) (blank_descriptor l.order);
  grown : length l.fn.descriptors.items ≤ length l.descriptors.items;
  few : length l.descriptors.items ≤ l.block + 1;
  room : vec_capacity l.descriptors ≡ vec_capacity l.fn.descriptors;
}

abbrev pub decreases-loop-descriptors : goal.decreases-loop-descriptors
decreases-loop-descriptors l = l.block + 1 - length l.descriptors.items
