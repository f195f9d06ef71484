use Rattle.std.proofs.Common.{◌∙◌, ap, sym, refl, arith}
use Rattle.std.proofs.lemmas.List.{get_or_past, get_or_read}
use Rattle.thp_page.specs.Prelude.{Descriptor, blank_descriptor}
use Rattle.thp_page.proofs.StoredDescriptors.{link_read}
use Rattle.thp_page.proofs.page_table.PageTableLinkTable.link.Goals as goal

pub returns-then-i-len-clause-value : goal.returns-then-i-len-clause-value
returns-then-i-len-clause-value c =
    link_read c.self.inside.order c.self.inside.blocks _ c.self.inside.numbers c.self.inside.descriptors.items c.self.inside.accesses c.args.i _ _ c.self.invariant c.self.view_is c.requires.inside
    (sym (ap (λ (d : Descriptor). d.link) (get_or_past c.self.inside.descriptors.items c.args.i (blank_descriptor c.self.inside.order) (omega arith))))

pub returns-clause-value : goal.returns-clause-value
returns-clause-value c =
    link_read c.self.inside.order c.self.inside.blocks _ c.self.inside.numbers c.self.inside.descriptors.items c.self.inside.accesses c.args.i _ _ c.self.invariant c.self.view_is c.requires.inside
    (ap (λ (d : Descriptor). d.link) (get_or_read c.self.inside.descriptors.items c.args.i c.index.result.now (omega arith) c.index.ensures (blank_descriptor c.self.inside.order)))
