use Rattle.std.proofs.Common.{◌≡◌, ◌++◌, take, drop, get_or}
use Rattle.thp_history.specs.Prelude.{queue}
use Rattle.thp_links.specs.declared.link.TheConstants.{NIL}
use Rattle.thp_capi.proofs.engine.Engine.queue.Given as goal

-- the pages passed are stored, and that of the block is the next one
abbrev pub invariant-loop-place : goal.invariant-loop-place
invariant-loop-place g l = record {
  next : l.block ≡ get_or l.queue l.place NIL;
  stored : l.pages ≡ take l.place (queue l.self.node.shape l.self.node.journal) ++ drop l.place l.fn.pages;
}
