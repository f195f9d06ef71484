use Rattle.std.proofs.Common.{◌<◌, ◌≤◌, List, length, set, ap, ◌∙◌, refl, arith, length-set}
use Rattle.std.proofs.lemmas.List.{map-set}
use Rattle.thp_page.specs.Prelude.{blank_descriptor, descriptors_of, links_of, slots_of, Descriptor, Table}
use Rattle.thp_page.proofs.TableSteps.{slots_of-linked}
use Rattle.thp_page.proofs.StoredDescriptors.{links_all, stored_read, reached, length-reached, sized_grown}
use Rattle.thp_page.proofs.Paddings.{padded-set}
use Rattle.thp_page.proofs.page_table.PageTableLinkTable.set_link.Goals as goal

pub returns-clause-links : goal.returns-clause-links
returns-clause-links c =
    let order = c.self.inside.order in
    let blocks = c.self.inside.blocks in
    let xs = c.self.inside.descriptors.items in
    let ys = c.reach.new.descriptors.items in
    let inside : c.args.i < blocks = omega (arith, links_all c.self.inside.order c.self.inside.blocks _ c.self.inside.numbers c.self.inside.descriptors.items c.self.inside.accesses _ c.self.invariant c.self.view_is, c.requires) in
    let few : length xs ≤ blocks = c.self.invariant.few in
    let size = length-reached order xs ys c.args.i c.reach.ensures.blank in
    let there : c.args.i < length ys = omega (arith, size) in
    ap links_of (padded-set (blank_descriptor order) blocks ys c.args.i _ there)
    ∙ map-set (λ (d : Descriptor). d.link) (descriptors_of order blocks ys) c.args.i _
    ∙ ap (λ (ds : List Descriptor). set (links_of ds) c.args.i c.args.link) (reached order blocks xs ys c.args.i few inside c.reach.ensures.blank)
    ∙ ap (λ (t : Table). set t.links c.args.i c.args.link) c.self.view_is

pub returns-clause-rest : goal.returns-clause-rest
returns-clause-rest c =
    let order = c.self.inside.order in
    let blocks = c.self.inside.blocks in
    let xs = c.self.inside.descriptors.items in
    let ys = c.reach.new.descriptors.items in
    let inside : c.args.i < blocks = omega (arith, links_all c.self.inside.order c.self.inside.blocks _ c.self.inside.numbers c.self.inside.descriptors.items c.self.inside.accesses _ c.self.invariant c.self.view_is, c.requires) in
    let few : length xs ≤ blocks = c.self.invariant.few in
    let size = length-reached order xs ys c.args.i c.reach.ensures.blank in
    let there : c.args.i < length ys = omega (arith, size) in
    record {
      order = ap (λ (t : Table). t.order) c.self.view_is;
      slots = ap (λ (ds : List Descriptor). slots_of c.self.inside.numbers ds) (padded-set (blank_descriptor order) blocks ys c.args.i _ there)
          ∙ slots_of-linked c.self.inside.numbers (descriptors_of order blocks ys) c.args.i c.index_mut.result.now c.args.link (stored_read order blocks ys c.args.i c.index_mut.result.now there c.index_mut.ensures.value)
          ∙ ap (λ (ds : List Descriptor). slots_of c.self.inside.numbers ds) (reached order blocks xs ys c.args.i few inside c.reach.ensures.blank)
          ∙ ap (λ (t : Table). t.slots) c.self.view_is;
    }

pub invariant_of-self : goal.invariant_of-self
invariant_of-self c =
    let order = c.self.inside.order in
    let blocks = c.self.inside.blocks in
    let xs = c.self.inside.descriptors.items in
    let ys = c.reach.new.descriptors.items in
    let inside : c.args.i < blocks = omega (arith, links_all c.self.inside.order c.self.inside.blocks _ c.self.inside.numbers c.self.inside.descriptors.items c.self.inside.accesses _ c.self.invariant c.self.view_is, c.requires) in
    let few : length xs ≤ blocks = c.self.invariant.few in
    let size = length-reached order xs ys c.args.i c.reach.ensures.blank in
    let there : c.args.i < length ys = omega (arith, size) in
    sized_grown order blocks _ _ c.self.inside.numbers xs _ c.self.invariant c.reach.ensures.capacity (omega (arith, size, length-set ys c.args.i)) (omega (arith, size, inside, few, length-set ys c.args.i))

pub reach-requires-clause-room : goal.reach-requires-clause-room
reach-requires-clause-room c = omega (arith, links_all c.self.inside.order c.self.inside.blocks _ c.self.inside.numbers c.self.inside.descriptors.items c.self.inside.accesses _ c.self.invariant c.self.view_is, c.self.invariant.room, c.requires)

pub index_mut-requires : goal.index_mut-requires
index_mut-requires c = omega (arith, length-reached c.self.inside.order c.self.inside.descriptors.items c.reach.new.descriptors.items c.args.i c.reach.ensures.blank)
