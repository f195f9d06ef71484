use Rattle.std.proofs.Common.{◌∙◌}
use Rattle.thp_journal_reader.specs.LastAllocations.{last_allocation}
use Rattle.thp_journal_reader.proofs.Noting.{no_last, noted_covered, noted_freed, noted_freed_none}
use Rattle.thp_journal_reader.proofs.least_blocks.LeastBlocks.note_freed.Goals as goal

pub give_back-requires : goal.give_back-requires
give_back-requires c =
    noted_covered c.self.inside.shape c.self.inside.past c.self.inside.holders (last_allocation c.self.inside.pages.last) c.self.inside.pages.allocations.items
    c.args.event.now c.args.page c.find-last.result c.self.invariant c.requires.frees c.find-last.ensures

pub invariant_of-self : goal.invariant_of-self
invariant_of-self c =
    noted_freed_none c.self.inside.shape c.self.inside.past c.push.new.self c.self.inside.holders (last_allocation c.self.inside.pages.last) c.self.inside.pages.allocations.items
    c.args.event.now c.args.page c.self.invariant c.requires.frees (no_last c.find-last.result c.is_none.result c.is_none.ensures c.if-is_none.true ∙ c.find-last.ensures) c.push.ensures

pub invariant_of-self-2 : goal.invariant_of-self-2
invariant_of-self-2 c =
    noted_freed c.self.inside.shape c.self.inside.past c.push-2.new.self c.self.inside.holders c.give_back.new.holders (last_allocation c.self.inside.pages.last) (last_allocation c.set.new.self)
    c.self.inside.pages.allocations.items c.args.event.now c.args.page c.find-last.result
    c.self.invariant c.requires.frees c.find-last.ensures c.push-2.ensures c.in_ok-set.ensures.done c.give_back.ensures.size c.give_back.ensures.given
