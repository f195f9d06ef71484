use Rattle.std.proofs.Common.{◌∙◌, ap, ap₂, List}
use Rattle.thp_page.specs.Prelude.{Descriptor, slots_of, blank_descriptor, descriptors_of}
use Rattle.thp_page.proofs.TableSteps.{slots_of-blank}
use Rattle.thp_page.proofs.page_table.PageTable.new.Goals as goal

pub returns-clause-empty : goal.returns-clause-empty
returns-clause-empty c =
    ap₂ slots_of c.in_ok-new.ensures (ap (λ (xs : List Descriptor). descriptors_of c.args.order c.args.blocks xs) c.in_ok-with_capacity.ensures.items) ∙ slots_of-blank c.args.blocks (blank_descriptor c.args.order)
