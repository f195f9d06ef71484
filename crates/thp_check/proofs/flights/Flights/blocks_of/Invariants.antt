use Rattle.std.proofs.Common.{◌≡◌, ◌%◌, nat_eq, take, get_or, filter}
use Rattle.thp_links.specs.declared.link.TheConstants.{NIL}
use Rattle.thp_check.specs.Prelude.{caller_at, list_at}
use Rattle.thp_check.proofs.flights.Flights.blocks_of.Given as goal

-- the caller's blocks among those passed, and the block of the next place
abbrev pub invariant-loop-place : goal.invariant-loop-place
invariant-loop-place l = record {
  next : l.block ≡ get_or (list_at l.self.lists (l.caller % 4096)) l._place NIL;
  found : l.blocks.items ≡ filter (λ b. nat_eq (caller_at l.self.callers b) l.caller) (take l._place (list_at l.self.lists (l.caller % 4096)));
}
