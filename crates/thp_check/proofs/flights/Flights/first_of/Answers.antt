use Rattle.std.proofs.Common.{sym, ◌∙◌, arith}
use Rattle.std.proofs.lemmas.Option.{get_or_from_slice_get}
use Rattle.thp_check.proofs.FlightLists.{read_list, place_inside, nothing_there, found_there, none_ended, passed_on, next_after}
use Rattle.thp_check.proofs.flights.Flights.first_of.Goals as goal

pub returns-in_err-block : goal.returns-in_err-block
returns-in_err-block c = c.from_residual.ensures ∙ sym (nothing_there c.self.inside.callers c.self.inside.lists.items c.self.inside.links.pairs c.self.invariant c.args.self.now c.self.view_is c.args.caller c.index-list.result.now (read_list c.self.inside.lists.items c.list_of.result c.args.caller c.index-list.result.now c.index-list.result.now c.self.invariant.count c.list_of.ensures.inside c.list_of.ensures.value c.index-list.ensures) c.in_err-block.ensures)

pub at-requires : goal.at-requires
at-requires c = omega (arith, c.self.invariant.sizes, place_inside c.self.inside.callers c.self.inside.lists.items c.self.inside.links.pairs c.self.invariant c.args.self.now c.self.view_is c.args.caller c.index-list.result.now (read_list c.self.inside.lists.items c.list_of.result c.args.caller c.index-list.result.now c.index-list.result.now c.self.invariant.count c.list_of.ensures.inside c.list_of.ensures.value c.index-list.ensures) c.loop-place._place c.loop-place.block c.loop-place.invariant.next (omega arith))

pub returns-then-at-caller : goal.returns-then-at-caller
returns-then-at-caller c = sym (found_there c.self.inside.callers c.self.inside.lists.items c.self.inside.links.pairs c.self.invariant c.args.self.now c.self.view_is c.args.caller c.index-list.result.now (read_list c.self.inside.lists.items c.list_of.result c.args.caller c.index-list.result.now c.index-list.result.now c.self.invariant.count c.list_of.ensures.inside c.list_of.ensures.value c.index-list.ensures) c.loop-place._place c.loop-place.block c.at.result c.loop-place.invariant.next c.loop-place.invariant.passed (omega arith) (sym (get_or_from_slice_get c.self.inside.callers c.loop-place.block c.at.result c.at.result c.at.ensures)) c.if-at-caller.true)

pub peek_next-block-requires : goal.peek_next-block-requires
peek_next-block-requires c = place_inside c.self.inside.callers c.self.inside.lists.items c.self.inside.links.pairs c.self.invariant c.args.self.now c.self.view_is c.args.caller c.index-list.result.now (read_list c.self.inside.lists.items c.list_of.result c.args.caller c.index-list.result.now c.index-list.result.now c.self.invariant.count c.list_of.ensures.inside c.list_of.ensures.value c.index-list.ensures) c.loop-place._place c.loop-place.block c.loop-place.invariant.next (omega arith)

pub loop-place-preserved : goal.loop-place-preserved
loop-place-preserved c = record {
  next = next_after c.self.inside.callers c.self.inside.lists.items c.self.inside.links.pairs c.self.invariant c.args.self.now c.self.view_is c.args.caller c.index-list.result.now (read_list c.self.inside.lists.items c.list_of.result c.args.caller c.index-list.result.now c.index-list.result.now c.self.invariant.count c.list_of.ensures.inside c.list_of.ensures.value c.index-list.ensures) c.loop-place._place c.loop-place.block c.peek_next-block.result c.loop-place.invariant.next (omega arith) c.peek_next-block.ensures;
  passed = passed_on c.self.inside.callers c.self.inside.lists.items c.self.inside.links.pairs c.self.invariant c.args.self.now c.self.view_is c.args.caller c.index-list.result.now (read_list c.self.inside.lists.items c.list_of.result c.args.caller c.index-list.result.now c.index-list.result.now c.self.invariant.count c.list_of.ensures.inside c.list_of.ensures.value c.index-list.ensures) c.loop-place._place c.loop-place.block c.at.result c.loop-place.invariant.next c.loop-place.invariant.passed (omega arith) (sym (get_or_from_slice_get c.self.inside.callers c.loop-place.block c.at.result c.at.result c.at.ensures)) c.if-at-caller.false;
}

pub returns : goal.returns
returns c = sym (none_ended c.self.inside.callers c.self.inside.lists.items c.self.inside.links.pairs c.self.invariant c.args.self.now c.self.view_is c.args.caller c.index-list.result.now (read_list c.self.inside.lists.items c.list_of.result c.args.caller c.index-list.result.now c.index-list.result.now c.self.invariant.count c.list_of.ensures.inside c.list_of.ensures.value c.index-list.ensures) c.loop-place._place (omega arith) c.loop-place.invariant.passed)
