use Rattle.std.proofs.Common.{sym, ◌∙◌}
use Rattle.thp_journal_reader.specs.LastAllocations.{last_allocation}
use Rattle.thp_journal_reader.proofs.Chaining.{none_left}
use Rattle.thp_journal_reader.proofs.Held.{event_page}
use Rattle.thp_journal_reader.proofs.Noting.{noted_quiet, other_is}
use Rattle.thp_journal_reader.proofs.least_blocks.LeastBlocks.note.Goals as goal

pub invariant_of-self : goal.invariant_of-self
invariant_of-self c =
    noted_quiet c.self.inside.shape c.self.inside.past c.push.new.self c.self.inside.holders (last_allocation c.self.inside.pages.last) c.self.inside.pages.allocations.items c.args.event.now
    c.self.invariant (sym (event_page c.args.event.now.what c.freed_page.result c.freed_page.ensures.frees c.freed_page.ensures.no_other) ∙ none_left c.freed_page.result c.in_default-freed_page.not-Some) (other_is c.args.event.now.what c.in_default.not-Alloc) c.push.ensures
