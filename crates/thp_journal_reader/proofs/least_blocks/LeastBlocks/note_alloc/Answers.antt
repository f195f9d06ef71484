use Rattle.thp_journal_reader.specs.LastAllocations.{last_allocation}
use Rattle.thp_journal_reader.specs.BlocksState.{BlocksState}
use Rattle.std.proofs.Common.{subst, ◌<◌, sym}
use Rattle.thp_journal_reader.proofs.Noting.{noted_alloc}
use Rattle.thp_journal_reader.proofs.least_blocks.LeastBlocks.note_alloc.Goals as goal

pub invariant_of-self-2 : goal.invariant_of-self-2
invariant_of-self-2 c =
    noted_alloc c.self.inside.shape c.self.inside.past c.push.new.self c.self.inside.holders c.hold.new.self (last_allocation c.self.inside.pages.last) (last_allocation c.add.new.self.last)
    c.self.inside.pages.allocations.items c.add.new.self.allocations.items c.args.event.now c.args.page c.args.block c.find-before.result
    c.self.invariant c.requires.is_so (subst (λ (v : BlocksState). c.args.block < v.shape.blocks) (sym c.self.view_is) c.requires.inside) c.find-before.ensures c.push.ensures c.hold.ensures c.in_ok-add.ensures.last c.in_ok-add.ensures.added
