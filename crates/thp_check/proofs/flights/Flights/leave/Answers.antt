use Rattle.std.proofs.Common.{ℕ, List, Contains, ap, sym, ◌∙◌, subst}
use Rattle.thp_links.specs.Prelude.{without_index, SameOutside}
use Rattle.thp_check.specs.Prelude.{blocks_in, flight_left}
use Rattle.thp_check.proofs.FlightLists.{listed, read_list, left_linked, left_blocks}
use Rattle.thp_check.proofs.flights.Flights.leave.Goals as goal

pub remove-requires-clause-present : goal.remove-requires-clause-present
remove-requires-clause-present c =
    let P : List ℕ → Type 0 = λ xs. Contains xs c.args.block in
    subst P (sym (read_list c.self.inside.lists.items c.list_of.result c.in-Some.caller c.index_mut-list.result.now c.index_mut-list.result.now c.self.invariant.count c.list_of.ensures.inside c.list_of.ensures.value c.index_mut-list.ensures.value)) (listed c.self.inside.callers c.self.inside.lists.items c.self.inside.links.pairs c.self.invariant c.args.block c.in-Some.caller c.args.self.now c.self.view_is (c.requires c.in-Some.caller c.in-Some.is)).0

pub invariant_of-self : goal.invariant_of-self
invariant_of-self c =
    let O : List ℕ → Type 0 = λ xs. SameOutside xs c.self.inside.links.pairs c.remove.new.table.pairs in
    let there = listed c.self.inside.callers c.self.inside.lists.items c.self.inside.links.pairs c.self.invariant c.args.block c.in-Some.caller c.args.self.now c.self.view_is (c.requires c.in-Some.caller c.in-Some.is) in
    left_linked c.self.inside.callers c.self.inside.lists.items c.self.inside.links.pairs c.self.invariant c.args.block c.in-Some.caller there.0 there.1 c.list_of.result c.remove.new.self c.list_of.ensures.value
    (c.remove.ensures.list ∙ ap (without_index c.args.block) (read_list c.self.inside.lists.items c.list_of.result c.in-Some.caller c.index_mut-list.result.now c.index_mut-list.result.now c.self.invariant.count c.list_of.ensures.inside c.list_of.ensures.value c.index_mut-list.ensures.value))
    c.remove.new.table.pairs c.remove.ensures.stands (subst O (read_list c.self.inside.lists.items c.list_of.result c.in-Some.caller c.index_mut-list.result.now c.index_mut-list.result.now c.self.invariant.count c.list_of.ensures.inside c.list_of.ensures.value c.index_mut-list.ensures.value) c.remove.ensures.outside)

pub returns-in-Some-clause-left : goal.returns-in-Some-clause-left
returns-in-Some-clause-left c = λ d.
    let there = listed c.self.inside.callers c.self.inside.lists.items c.self.inside.links.pairs c.self.invariant c.args.block c.in-Some.caller c.args.self.now c.self.view_is (c.requires c.in-Some.caller c.in-Some.is) in
    left_blocks c.self.inside.callers c.self.inside.lists.items c.self.inside.links.pairs c.self.invariant c.args.block c.in-Some.caller there.0 there.1 c.list_of.result c.remove.new.self c.list_of.ensures.value
    (c.remove.ensures.list ∙ ap (without_index c.args.block) (read_list c.self.inside.lists.items c.list_of.result c.in-Some.caller c.index_mut-list.result.now c.index_mut-list.result.now c.self.invariant.count c.list_of.ensures.inside c.list_of.ensures.value c.index_mut-list.ensures.value))
    c.args.self.now c.self.view_is d
    ∙ ap (λ o. flight_left o c.args.block d (blocks_in c.args.self.now d)) (sym c.in-Some.is)
