use Rattle.std.proofs.Common.{◌≡◌, ◌<◌, Some, is_some, length, sym, ap, ◌∙◌, subst, arith, slice_set}
use Rattle.thp_history.specs.Prelude.{PageState, PageSplit, gives_frames}
use Rattle.thp_page.specs.Prelude.{slot_at, Table}
use Rattle.thp_page.proofs.TableSlots.{slot_at-inside}
use Rattle.thp_page.specs.declared.standing.Standing.TheVariants.{Nowhere}
use Rattle.thp_live_pages.specs.Prelude.{PageStoreState}
use Rattle.thp_live_pages.proofs.Relinking.{linked_outside, links_same, links_seen, page_there, seen_inside, seen_taken, stood_paged, stood_slot, taken}
use Rattle.thp_live_pages.proofs.page_store.PageStore.split.Goals as goal

pub set_standing-requires-clause-inside : goal.set_standing-requires-clause-inside
set_standing-requires-clause-inside c = seen_inside _ _ _ c.args.block c.self.view_is c.self.invariant c.requires.occupied

pub set_standing-requires-clause-occupied : goal.set_standing-requires-clause-occupied
set_standing-requires-clause-occupied c = seen_taken _ _ _ c.args.block c.self.view_is c.requires.occupied

pub occupant_mut-requires-clause-inside : goal.occupant_mut-requires-clause-inside
occupant_mut-requires-clause-inside c =
    subst (λ (u : Table). c.args.block < length u.links) (sym c.set_standing.ensures) (seen_inside _ _ _ c.args.block c.self.view_is c.self.invariant c.requires.occupied)

pub occupant_mut-requires-clause-occupied : goal.occupant_mut-requires-clause-occupied
occupant_mut-requires-clause-occupied c =
    let t = c.self.inside.table in
    let w = taken _ c.requires.occupied in
    let at : slot_at t c.args.block ≡ Some w.0 = ap (λ (n : PageStoreState). slot_at n.table c.args.block) c.self.view_is ∙ w.1 in
    ap is_some (stood_slot t c.set_standing.new.self c.args.block w.0 Nowhere at c.set_standing.ensures)

pub split-requires-clause-whole : goal.split-requires-clause-whole
split-requires-clause-whole c =
    let t = c.self.inside.table in
    let b = c.args.block in
    let w = taken _ c.requires.occupied in
    let at : slot_at t b ≡ Some w.0 = ap (λ (n : PageStoreState). slot_at n.table b) c.self.view_is ∙ w.1 in
    ap (λ (p : PageState). p.split) (page_there c.set_standing.new.self b (record w.0 { standing = Nowhere }) c.occupant_mut.result.now (stood_slot t c.set_standing.new.self b w.0 Nowhere at c.set_standing.ensures) c.occupant_mut.ensures.value)
    ∙ (c.requires.allowed w.0 w.1).0

pub split-requires-clause-unpinned : goal.split-requires-clause-unpinned
split-requires-clause-unpinned c =
    let t = c.self.inside.table in
    let b = c.args.block in
    let w = taken _ c.requires.occupied in
    let at : slot_at t b ≡ Some w.0 = ap (λ (n : PageStoreState). slot_at n.table b) c.self.view_is ∙ w.1 in
    ap (λ (p : PageState). p.pins) (page_there c.set_standing.new.self b (record w.0 { standing = Nowhere }) c.occupant_mut.result.now (stood_slot t c.set_standing.new.self b w.0 Nowhere at c.set_standing.ensures) c.occupant_mut.ensures.value)
    ∙ (c.requires.allowed w.0 w.1).1

pub returns : goal.returns
returns c = λ x e.
    let t = c.self.inside.table in
    let b = c.args.block in
    let at : slot_at t b ≡ Some x = ap (λ (n : PageStoreState). slot_at n.table b) c.self.view_is ∙ e in
    let page : c.occupant_mut.result.now ≡ x.page =
    page_there c.set_standing.new.self b (record x { standing = Nowhere }) c.occupant_mut.result.now (stood_slot t c.set_standing.new.self b x Nowhere at c.set_standing.ensures) c.occupant_mut.ensures.value in
    let P : PageState → Type 0 = λ p. PageSplit c.args.give_zero p c.split.new.self in (
      c.split.new.self,
      subst P page c.split.ensures.counts,
      c.split.ensures.released ∙ ap (λ (p : PageState). gives_frames p c.split.new.self) page,
      record {
        slots = stood_paged t c.set_standing.new.self b x Nowhere c.split.new.self at c.set_standing.ensures ∙ ap (λ (n : PageStoreState). slice_set n.table.slots b (Some (record x { page = c.split.new.self; standing = Nowhere }))) c.self.view_is;
        order = ap (λ (u : Table). u.order) c.set_standing.ensures ∙ ap (λ (n : PageStoreState). n.table.order) c.self.view_is;
        queue_is = ap (λ (n : PageStoreState). n.queue) c.self.view_is;
        links = links_seen c.args.self.now t c.set_standing.new.self c.self.inside.queue b c.self.view_is (links_same t c.set_standing.new.self b (ap (λ (u : Table). u.links) c.set_standing.ensures));
        work = omega (arith, ap (λ (u : Table). u.accesses) c.set_standing.ensures, ap (λ (n : PageStoreState). n.table.accesses) c.self.view_is);
      },
    )

pub invariant_of-self : goal.invariant_of-self
invariant_of-self c =
    let t = c.self.inside.table in
    let b = c.args.block in
    let w = taken _ c.requires.occupied in
    let at : slot_at t b ≡ Some w.0 = ap (λ (n : PageStoreState). slot_at n.table b) c.self.view_is ∙ w.1 in
    linked_outside t _ c.self.inside.queue b (Some w.0) (Some (record w.0 { page = c.split.new.self; standing = Nowhere })) c.self.invariant at (slot_at-inside t b w.0 at)
    (c.requires.allowed w.0 w.1).2 (λ e. cc) (stood_paged t c.set_standing.new.self b w.0 Nowhere c.split.new.self at c.set_standing.ensures) (ap (λ (u : Table). u.links) c.set_standing.ensures)
