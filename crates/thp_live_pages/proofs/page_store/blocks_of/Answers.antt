use Rattle.std.proofs.Common.{◌≡◌, ◌<◌, ◌≤◌, List, Option, Some, length, ap, sym, ◌∙◌, arith, subst, refl, slice_get, IfSome}
use Rattle.thp_links.specs.declared.link.Link.{Link}
use Rattle.thp_live_pages.proofs.Walking.{inside, behind, joins}
use Rattle.thp_live_pages.proofs.page_store.blocks_of.Goals as goal

pub link-block-requires : goal.link-block-requires
link-block-requires c =
    let i = c.loop-place.invariant in
    omega (arith, ap (λ (ls : List Link). length ls) i.links, inside c.args.queue.now c.args.table.now.links c.requires c.loop-place._place c.loop-place.block i.next (omega arith))

pub loop-place-preserved : goal.loop-place-preserved
loop-place-preserved c =
    let i = c.loop-place.invariant in
    let below : c.loop-place._place < length c.args.queue.now = omega arith in
    let P : Option Link → Type 0 = λ o. IfSome o (λ l. c.link-block.result.next ≡ l.next) in
    let at : slice_get c.args.table.now.links c.loop-place.block ≡ Some c.link-block.result = ap (λ (ls : List Link). slice_get ls c.loop-place.block) (sym i.links) ∙ c.link-block.ensures.value in
    record {
      next = behind c.args.queue.now c.args.table.now.links c.requires c.loop-place._place c.loop-place.block c.link-block.result.next i.next below (subst P (sym at) refl);
      count = omega (arith, c.push_reserved.ensures.len, i.count);
      room = subst (λ n. length c.args.queue.now ≤ n) (sym c.push_reserved.ensures.capacity) i.room;
      found = c.push_reserved.ensures.items ∙ joins c.args.queue.now c.args.table.now.links c.requires c.loop-place._place c.loop-place.block c.loop-place.blocks.items i.found i.next below;
      links = c.link-block.ensures.links ∙ i.links;
      rest = record { order = c.link-block.ensures.rest.order ∙ i.rest.order; slots = c.link-block.ensures.rest.slots ∙ i.rest.slots };
      work = omega (arith, c.link-block.ensures.accesses, i.work);
    }
