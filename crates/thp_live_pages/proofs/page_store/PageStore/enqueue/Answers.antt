use Rattle.std.proofs.Common.{◌≡◌, ℕ, List, [], ◌∷◌, ◌++◌, Option, Some, refl, ap, sym, ◌∙◌, subst, arith, slice_set}
use Rattle.thp_links.specs.declared.link.Link.{Link}
use Rattle.thp_links.specs.Prelude.{Stands, SameOutside}
use Rattle.thp_page.proofs.TableSlots.{slot_at-inside}
use Rattle.thp_page.specs.Prelude.{slot_at, stood, Slot, Table}
use Rattle.thp_page.specs.declared.standing.Standing.TheVariants.{Queued}
use Rattle.thp_live_pages.specs.Prelude.{PageStoreState, QueueIsLinked}
use Rattle.thp_live_pages.proofs.Relinking.{linked_queued, links_outside, links_seen, same_pushed, stood_slots, taken}
use Rattle.thp_live_pages.proofs.page_store.PageStore.enqueue.Goals as goal

pub invariant_of-self : goal.invariant_of-self
invariant_of-self c =
    let t = c.self.inside.table in
    let q = c.self.inside.queue in
    let b = c.args.block in
    let u = c.push_back.new.table in
    let w = taken _ c.requires.occupied in
    let at : slot_at t b ≡ Some w.0 = ap (λ (n : PageStoreState). slot_at n.table b) c.self.view_is ∙ w.1 in
    let links = ap (λ (v : Table). v.links) c.set_standing.ensures in
    let P : List ℕ → Type 0 = λ r. QueueIsLinked u r in
    let S : List ℕ → Type 0 = λ r. Stands r u.links in
    let O : List ℕ → List Link → Type 0 = λ r ls. SameOutside r ls u.links in
    subst P (sym c.push_back.ensures.list)
    (linked_queued t u q b (record w.0 { standing = Queued }) c.self.invariant (slot_at-inside t b w.0 at) refl
    (c.push_back.ensures.rest.slots ∙ ap (λ (v : Table). v.slots) c.set_standing.ensures ∙ ap (λ (o : Option Slot). slice_set t.slots b (stood o Queued)) at)
    (subst S c.push_back.ensures.list c.push_back.ensures.stands)
    (subst (λ r. O r t.links) c.push_back.ensures.list (subst (λ ls. O c.push_back.new.self ls) links c.push_back.ensures.outside)))

pub returns : goal.returns
returns c = λ x e.
    let t = c.self.inside.table in
    let q = c.self.inside.queue in
    let b = c.args.block in
    let u = c.push_back.new.table in
    let at : slot_at t b ≡ Some x = ap (λ (n : PageStoreState). slot_at n.table b) c.self.view_is ∙ e in
    let links = ap (λ (v : Table). v.links) c.set_standing.ensures in
    let O : List ℕ → List Link → Type 0 = λ r ls. SameOutside r ls u.links in
    record {
      slots = c.push_back.ensures.rest.slots ∙ stood_slots t c.set_standing.new.self b x Queued at c.set_standing.ensures ∙ ap (λ (n : PageStoreState). slice_set n.table.slots b (Some (record x { standing = Queued }))) c.self.view_is;
      order = c.push_back.ensures.rest.order ∙ ap (λ (v : Table). v.order) c.set_standing.ensures ∙ ap (λ (n : PageStoreState). n.table.order) c.self.view_is;
      queue_is = c.push_back.ensures.list ∙ ap (λ (n : PageStoreState). n.queue ++ b ∷ []) c.self.view_is;
      links = links_seen c.args.self.now t u q b c.self.view_is
          (links_outside t u q (q ++ b ∷ []) b c.self.invariant (same_pushed q b)
          (subst (λ r. O r t.links) c.push_back.ensures.list (subst (λ ls. O c.push_back.new.self ls) links c.push_back.ensures.outside)));
      work = omega (arith, c.push_back.ensures.accesses, ap (λ (v : Table). v.accesses) c.set_standing.ensures, ap (λ (n : PageStoreState). n.table.accesses) c.self.view_is);
    }
