use Rattle.std.proofs.Common.{ap, ◌∙◌}
use Rattle.thp_live_pages.specs.Prelude.{least_of}
use Rattle.thp_live_pages.proofs.Least.{least_some, least_none}
use Rattle.thp_journal_reader.proofs.page_blocks.BlockHolders.least.Goals as goal

pub returns-in-Some-clause-least : goal.returns-in-Some-clause-least
returns-in-Some-clause-least c =
    least_some c.self.inside.counts.items c.self.inside.free c.in-Some.block c.self.invariant c.in-Some.ensures.there c.in-Some.ensures.least ∙ ap least_of c.self.view_is

pub returns-in-None-clause-least : goal.returns-in-None-clause-least
returns-in-None-clause-least c = least_none c.self.inside.counts.items c.self.inside.free c.self.invariant c.in-None.ensures.none ∙ ap least_of c.self.view_is
