use Rattle.std.proofs.Common.{◌∙◌}
use Rattle.thp_page.specs.Prelude.{descriptors_of}
use Rattle.thp_page.proofs.TableSteps.{number_read, numbered_slot, some_number}
use Rattle.thp_page.proofs.StoredDescriptors.{numbers_alike}
use Rattle.thp_page.proofs.page_table.PageTable.number.Goals as goal

pub number-requires : goal.number-requires
number-requires c = some_number c.self.inside.order c.self.inside.numbers (descriptors_of c.self.inside.order c.self.inside.blocks c.self.inside.descriptors.items) c.self.inside.accesses c.args.block _ c.self.view_is (numbers_alike _ _ _ _ _ c.self.invariant) c.requires.inside c.requires.occupied

pub returns : goal.returns
returns c =
    numbered_slot _ c.number.result
    (number_read c.self.inside.order c.self.inside.numbers (descriptors_of c.self.inside.order c.self.inside.blocks c.self.inside.descriptors.items) c.self.inside.accesses c.args.block _ c.self.view_is (numbers_alike _ _ _ _ _ c.self.invariant) c.requires.inside
    ∙ c.number.ensures)
