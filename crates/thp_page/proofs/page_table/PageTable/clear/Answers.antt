use Rattle.std.proofs.Common.{arith}
use Rattle.thp_page.specs.Prelude.{descriptors_of}
use Rattle.thp_page.proofs.TableSteps.{number_cleared, some_number}
use Rattle.thp_page.proofs.StoredDescriptors.{numbers_alike, links_all, stored_read, stored_taken, reached, length-reached, sized_grown, sized_placed}
use Rattle.thp_page.proofs.page_table.PageTable.clear.Goals as goal

pub clear-requires-clause-taken : goal.clear-requires-clause-taken
clear-requires-clause-taken c = some_number c.self.inside.order c.self.inside.numbers (descriptors_of c.self.inside.order c.self.inside.blocks c.self.inside.descriptors.items) c.self.inside.accesses c.args.block _ c.self.view_is (numbers_alike _ _ _ _ _ c.self.invariant) c.requires.inside c.requires.occupied

pub returns : goal.returns
returns c = number_cleared c.self.inside.order c.self.inside.numbers _ (descriptors_of c.self.inside.order c.self.inside.blocks c.self.inside.descriptors.items) c.self.inside.accesses c.args.block _ c.self.view_is c.clear.ensures

pub clear-requires-clause-inside : goal.clear-requires-clause-inside
clear-requires-clause-inside c = omega (arith, links_all c.self.inside.order c.self.inside.blocks _ c.self.inside.numbers c.self.inside.descriptors.items c.self.inside.accesses _ c.self.invariant c.self.view_is, c.self.invariant.numbered, c.requires.inside)
