use Rattle.std.proofs.Common.{sym}
use Rattle.thp_page.proofs.StoredDescriptors.{links_all}
use Rattle.thp_page.proofs.page_table.PageTableLinkTable.len.Goals as goal

pub returns : goal.returns
returns c = sym (links_all c.self.inside.order c.self.inside.blocks _ c.self.inside.numbers c.self.inside.descriptors.items c.self.inside.accesses _ c.self.invariant c.self.view_is)
