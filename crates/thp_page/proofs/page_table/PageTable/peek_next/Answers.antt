use Rattle.std.proofs.Common.{◌≡◌, ap, sym, refl, arith, subst, Option, IfSome}
use Rattle.std.proofs.lemmas.List.{get_or_past, get_or_read}
use Rattle.thp_links.specs.declared.link.Link.{Link}
use Rattle.thp_page.specs.Prelude.{Descriptor, blank_descriptor}
use Rattle.thp_page.proofs.StoredDescriptors.{link_read}
use Rattle.thp_page.proofs.page_table.PageTable.peek_next.Goals as goal

pub returns-then-block-len : goal.returns-then-block-len
returns-then-block-len c =
    let P : Option Link → Type 0 = λ o. IfSome o (λ l. 4294967295 ≡ l.next) in
    subst P (sym (link_read c.self.inside.order c.self.inside.blocks _ c.self.inside.numbers c.self.inside.descriptors.items c.self.inside.accesses c.args.block _ _ c.self.invariant c.self.view_is c.requires
    (sym (ap (λ (d : Descriptor). d.link) (get_or_past c.self.inside.descriptors.items c.args.block (blank_descriptor c.self.inside.order) (omega arith)))))) refl

pub returns : goal.returns
returns c =
    let P : Option Link → Type 0 = λ o. IfSome o (λ l. c.index.result.now.link.next ≡ l.next) in
    subst P (sym (link_read c.self.inside.order c.self.inside.blocks _ c.self.inside.numbers c.self.inside.descriptors.items c.self.inside.accesses c.args.block _ c.index.result.now.link c.self.invariant c.self.view_is c.requires
    (ap (λ (d : Descriptor). d.link) (get_or_read c.self.inside.descriptors.items c.args.block c.index.result.now (omega arith) c.index.ensures (blank_descriptor c.self.inside.order))))) refl
