use Rattle.std.proofs.Common.{◌≡◌, take}
use Rattle.thp_metrics.specs.Prelude.{stuck_among}
use Rattle.thp_metrics.proofs.waiting.stuck_among.Given as goal

-- the pages of the blocks passed
abbrev pub invariant-loop-block : goal.invariant-loop-block
invariant-loop-block l = record {
  passed : l.pages.items ≡ stuck_among l.finds l.arrivals (take l.block-index l.blocks);
}
