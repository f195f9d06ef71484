use Rattle.thp_journal_reader.specs.LastAllocations.{last_allocation}
use Rattle.thp_history.specs.Prelude.{least_free}
use Rattle.thp_journal_reader.proofs.Noting.{placed_alloc, least_now}
use Rattle.thp_journal_reader.proofs.least_blocks.LeastBlocks.with_block.Goals as goal

pub returns-in-Alloc-clause-placed : goal.returns-in-Alloc-clause-placed
returns-in-Alloc-clause-placed c =
    placed_alloc c.args.event.now c.in-Alloc.page c.in-Alloc.block c.least-block.result (least_free c.args.self.now.shape c.args.self.now.history) c.in-Alloc.is
    (least_now c.self.inside.shape c.self.inside.past c.self.inside.holders (last_allocation c.self.inside.pages.last) c.self.inside.pages.allocations.items c.least-block.result c.args.self.now c.self.invariant c.least-block.ensures.least c.self.view_is)
