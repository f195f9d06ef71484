use Rattle.std.proofs.Common.{◌≡◌, take, get_or}
use Rattle.thp_links.specs.declared.link.TheConstants.{NIL}
use Rattle.thp_metrics.proofs.arrivals.Arrivals.blocks.Given as goal

-- the blocks passed, and that of the next place
abbrev pub invariant-loop-place : goal.invariant-loop-place
invariant-loop-place l = record {
  next : l.block ≡ get_or l.self.order l._place NIL;
  passed : l.blocks.items ≡ take l._place l.self.order;
}
