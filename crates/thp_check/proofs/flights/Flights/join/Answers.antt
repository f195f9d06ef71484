use Rattle.std.proofs.Common.{◌%◌, ℕ, List, ◌∷◌, ◌++◌, [], Contains, length, slice_set, ap, sym, ◌∙◌, subst, arith}
use Rattle.thp_check.specs.Prelude.{AreLinked, FlightsState, blocks_in}
use Rattle.thp_check.proofs.FlightLists.{listless, read_list, joined_linked, joined_blocks}
use Rattle.thp_check.proofs.flights.Flights.join.Goals as goal

pub push_back-requires-clause-absent : goal.push_back-requires-clause-absent
push_back-requires-clause-absent c = λ i.
    let P : List ℕ → Type 0 = λ xs. Contains xs c.args.block in
    listless c.self.inside.callers c.self.inside.lists.items c.self.inside.links.pairs c.self.invariant c.args.block c.args.self.now c.self.view_is c.requires.absent (c.args.caller % 4096) (subst P (read_list c.self.inside.lists.items c.list_of.result c.args.caller c.index_mut-list.result.now c.index_mut-list.result.now c.self.invariant.count c.list_of.ensures.inside c.list_of.ensures.value c.index_mut-list.ensures.value) i)

pub invariant_of-self : goal.invariant_of-self
invariant_of-self c =
    subst (λ (cs : List ℕ). AreLinked cs (slice_set c.self.inside.lists.items c.list_of.result c.push_back.new.self) c.push_back.new.table.pairs) (sym c.set.ensures)
    (joined_linked c.self.inside.callers c.self.inside.lists.items c.self.inside.links.pairs c.self.invariant c.args.block c.args.caller
    (omega (arith, c.requires.inside, ap (λ (f : FlightsState). length f.callers) c.self.view_is))
    (listless c.self.inside.callers c.self.inside.lists.items c.self.inside.links.pairs c.self.invariant c.args.block c.args.self.now c.self.view_is c.requires.absent)
    c.list_of.result c.push_back.new.self c.list_of.ensures.value
    (c.push_back.ensures.list ∙ ap (λ (xs : List ℕ). xs ++ c.args.block ∷ []) (read_list c.self.inside.lists.items c.list_of.result c.args.caller c.index_mut-list.result.now c.index_mut-list.result.now c.self.invariant.count c.list_of.ensures.inside c.list_of.ensures.value c.index_mut-list.ensures.value))
    c.push_back.new.table.pairs c.push_back.ensures.stands c.push_back.ensures.outside)

pub returns-clause-joined : goal.returns-clause-joined
returns-clause-joined c = λ d.
    ap (λ (cs : List ℕ). blocks_in (record { callers = cs; lists = slice_set c.self.inside.lists.items c.list_of.result c.push_back.new.self }) d) c.set.ensures
    ∙ joined_blocks c.self.inside.callers c.self.inside.lists.items c.self.inside.links.pairs c.self.invariant c.args.block c.args.caller
    (omega (arith, c.requires.inside, ap (λ (f : FlightsState). length f.callers) c.self.view_is))
    (listless c.self.inside.callers c.self.inside.lists.items c.self.inside.links.pairs c.self.invariant c.args.block c.args.self.now c.self.view_is c.requires.absent)
    c.list_of.result c.push_back.new.self c.list_of.ensures.value
    (c.push_back.ensures.list ∙ ap (λ (xs : List ℕ). xs ++ c.args.block ∷ []) (read_list c.self.inside.lists.items c.list_of.result c.args.caller c.index_mut-list.result.now c.index_mut-list.result.now c.self.invariant.count c.list_of.ensures.inside c.list_of.ensures.value c.index_mut-list.ensures.value))
    c.args.self.now c.self.view_is d
