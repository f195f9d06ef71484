use Rattle.std.proofs.Common.{ℕ, List, [], ◌∷◌, ◌++◌, sym, ◌∙◌, arith, ap}
use Rattle.std.proofs.lemmas.Option.{get_or_from_slice_get}
use Rattle.thp_links.proofs.Members.{empty_from_first}
use Rattle.thp_check.proofs.FlightLists.{read_list, place_inside, nothing_there, next_after, kept_on, passed_by, all_passed}
use Rattle.thp_check.proofs.flights.Flights.blocks_of.Goals.{then-at-caller+in_ok-push, else-at-caller}
use Rattle.thp_check.proofs.flights.Flights.blocks_of.Goals as goal

pub returns-in-None : goal.returns-in-None
returns-in-None c = c.new-blocks.ensures.items ∙ sym (empty_from_first _ (nothing_there c.self.inside.callers c.self.inside.lists.items c.self.inside.links.pairs c.self.invariant c.args.self.now c.self.view_is c.args.caller c.index-list.result.now (read_list c.self.inside.lists.items c.list_of.result c.args.caller c.index-list.result.now c.index-list.result.now c.self.invariant.count c.list_of.ensures.inside c.list_of.ensures.value c.index-list.ensures) c.in-None.ensures))

pub at-requires : goal.at-requires
at-requires c = omega (arith, c.self.invariant.sizes, place_inside c.self.inside.callers c.self.inside.lists.items c.self.inside.links.pairs c.self.invariant c.args.self.now c.self.view_is c.args.caller c.index-list.result.now (read_list c.self.inside.lists.items c.list_of.result c.args.caller c.index-list.result.now c.index-list.result.now c.self.invariant.count c.list_of.ensures.inside c.list_of.ensures.value c.index-list.ensures) c.loop-place._place c.loop-place.block c.loop-place.invariant.next (omega arith))

pub peek_next-block-requires : goal.peek_next-block-requires
peek_next-block-requires c = place_inside c.self.inside.callers c.self.inside.lists.items c.self.inside.links.pairs c.self.invariant c.args.self.now c.self.view_is c.args.caller c.index-list.result.now (read_list c.self.inside.lists.items c.list_of.result c.args.caller c.index-list.result.now c.index-list.result.now c.self.invariant.count c.list_of.ensures.inside c.list_of.ensures.value c.index-list.ensures) c.loop-place._place c.loop-place.block c.loop-place.invariant.next (omega arith)

pub loop-place-preserved : goal.loop-place-preserved
loop-place-preserved c = record {
  next = next_after c.self.inside.callers c.self.inside.lists.items c.self.inside.links.pairs c.self.invariant c.args.self.now c.self.view_is c.args.caller c.index-list.result.now (read_list c.self.inside.lists.items c.list_of.result c.args.caller c.index-list.result.now c.index-list.result.now c.self.invariant.count c.list_of.ensures.inside c.list_of.ensures.value c.index-list.ensures) c.loop-place._place c.loop-place.block c.peek_next-block.result c.loop-place.invariant.next (omega arith) c.peek_next-block.ensures;
  found = elim c.if-at-caller.branch [
    | then-at-caller+in_ok-push w ↦
        ap (λ v. v.items) w.blocks-is ∙ w.in_ok-push.ensures.items ∙ ap (λ (ys : List ℕ). ys ++ c.loop-place.block ∷ []) c.loop-place.invariant.found
        ∙ sym (kept_on c.self.inside.callers c.self.inside.lists.items c.self.inside.links.pairs c.self.invariant c.args.self.now c.self.view_is c.args.caller c.index-list.result.now (read_list c.self.inside.lists.items c.list_of.result c.args.caller c.index-list.result.now c.index-list.result.now c.self.invariant.count c.list_of.ensures.inside c.list_of.ensures.value c.index-list.ensures) c.loop-place._place c.loop-place.block c.at.result c.loop-place.invariant.next (omega arith) (sym (get_or_from_slice_get c.self.inside.callers c.loop-place.block c.at.result c.at.result c.at.ensures)) w.if-at-caller.true)
    | else-at-caller w ↦
        ap (λ v. v.items) w.blocks-is ∙ c.loop-place.invariant.found
        ∙ sym (passed_by c.self.inside.callers c.self.inside.lists.items c.self.inside.links.pairs c.self.invariant c.args.self.now c.self.view_is c.args.caller c.index-list.result.now (read_list c.self.inside.lists.items c.list_of.result c.args.caller c.index-list.result.now c.index-list.result.now c.self.invariant.count c.list_of.ensures.inside c.list_of.ensures.value c.index-list.ensures) c.loop-place._place c.loop-place.block c.at.result c.loop-place.invariant.next (omega arith) (sym (get_or_from_slice_get c.self.inside.callers c.loop-place.block c.at.result c.at.result c.at.ensures)) w.if-at-caller.false)
  ];
}

pub returns : goal.returns
returns c = c.loop-place.invariant.found ∙ all_passed c.self.inside.callers c.self.inside.lists.items c.self.inside.links.pairs c.self.invariant c.args.self.now c.self.view_is c.args.caller c.index-list.result.now (read_list c.self.inside.lists.items c.list_of.result c.args.caller c.index-list.result.now c.index-list.result.now c.self.invariant.count c.list_of.ensures.inside c.list_of.ensures.value c.index-list.ensures) c.loop-place._place (omega arith)
