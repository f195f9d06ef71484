use Rattle.std.proofs.Common.{◌≡◌, ℕ, List, Option, Some, refl, ap, ap₂, sym, ◌∙◌, subst, arith, slice_set}
use Rattle.thp_links.specs.declared.link.Link.{Link}
use Rattle.thp_links.specs.Prelude.{without_index, Stands, SameOutside}
use Rattle.thp_page.proofs.TableSlots.{slot_at-inside, slot_at-same}
use Rattle.thp_page.specs.Prelude.{slot_at, stood, Slot, Table}
use Rattle.thp_page.specs.declared.standing.Standing.TheVariants.{Nowhere}
use Rattle.thp_live_pages.specs.Prelude.{PageStoreState, QueueIsLinked}
use Rattle.thp_live_pages.proofs.Relinking.{if_at, linked_unqueued, links_outside, links_seen, not_listed, same_list, set_same, taken}
use Rattle.thp_live_pages.proofs.page_store.PageStore.leave_queue.Goals as goal

pub returns-in_default : goal.returns-in_default
returns-in_default c =
    let t = c.self.inside.table in
    let q = c.self.inside.queue in
    let b = c.args.block in
    let w = taken _ c.requires in
    let at : slot_at t b ≡ Some w.0 = ap (λ (n : PageStoreState). slot_at n.table b) c.self.view_is ∙ w.1 in
    let stands = if_at (slot_at t b) w.0 (λ (s : Slot). c.standing.result ≡ s.standing) at c.standing.ensures in
    record {
      slot = w.0;
      stands = λ e. c.in_default.not-Queued (stands ∙ e);
      edits = record {
        slots = sym (set_same c.args.self.now.table.slots b w.0 w.1);
        order = refl;
        queue_is = sym (ap (λ (n : PageStoreState). without_index b n.queue) (sym c.self.view_is) ∙ not_listed t q b w.0 c.self.invariant at (λ e. c.in_default.not-Queued (stands ∙ e)) ∙ ap (λ (n : PageStoreState). n.queue) c.self.view_is);
        links = λ k n none. refl;
        work = omega arith;
      };
    }

pub invariant_of-self : goal.invariant_of-self
invariant_of-self c =
    let t = c.self.inside.table in
    let q = c.self.inside.queue in
    let b = c.args.block in
    let u = c.set_standing.new.self in
    let w = taken _ c.requires in
    let at : slot_at t b ≡ Some w.0 = ap (λ (n : PageStoreState). slot_at n.table b) c.self.view_is ∙ w.1 in
    let links : u.links ≡ c.remove.new.table.links = ap (λ (v : Table). v.links) c.set_standing.ensures in
    let P : List ℕ → Type 0 = λ r. QueueIsLinked u r in
    let S : List ℕ → List Link → Type 0 = λ r ls. Stands r ls in
    let O : List Link → Type 0 = λ ls. SameOutside q t.links ls in
    subst P (sym c.remove.ensures.list)
    (linked_unqueued t u q b (record w.0 { standing = Nowhere }) c.self.invariant (slot_at-inside t b w.0 at) (λ e. cc)
    (ap (λ (v : Table). v.slots) c.set_standing.ensures ∙ ap₂ (λ (xs : List (Option Slot)) (o : Option Slot). slice_set xs b (stood o Nowhere)) c.remove.ensures.rest.slots (slot_at-same t c.remove.new.table b c.remove.ensures.rest ∙ at))
    (subst (λ ls. S (without_index b q) ls) (sym links) (subst (λ r. S r c.remove.new.table.links) c.remove.ensures.list c.remove.ensures.stands))
    (subst O (sym links) c.remove.ensures.outside))

pub returns : goal.returns
returns c =
    let t = c.self.inside.table in
    let b = c.args.block in
    let w = taken _ c.requires in
    let at : slot_at t b ≡ Some w.0 = ap (λ (n : PageStoreState). slot_at n.table b) c.self.view_is ∙ w.1 in
    record {
      slot = record w.0 { standing = Nowhere };
      stands = λ e. cc;
      edits = record {
        slots = ap (λ (v : Table). v.slots) c.set_standing.ensures
            ∙ ap₂ (λ (xs : List (Option Slot)) (o : Option Slot). slice_set xs b (stood o Nowhere)) (c.remove.ensures.rest.slots ∙ ap (λ (n : PageStoreState). n.table.slots) c.self.view_is) (slot_at-same t c.remove.new.table b c.remove.ensures.rest ∙ at);
        order = ap (λ (v : Table). v.order) c.set_standing.ensures ∙ c.remove.ensures.rest.order ∙ ap (λ (n : PageStoreState). n.table.order) c.self.view_is;
        queue_is = c.remove.ensures.list ∙ ap (λ (n : PageStoreState). without_index b n.queue) c.self.view_is;
        links = links_seen c.args.self.now t c.set_standing.new.self c.self.inside.queue b c.self.view_is
            (links_outside t c.set_standing.new.self c.self.inside.queue c.self.inside.queue b c.self.invariant (same_list c.self.inside.queue b)
            (let O : List Link → Type 0 = λ ls. SameOutside c.self.inside.queue t.links ls in subst O (sym (ap (λ (v : Table). v.links) c.set_standing.ensures)) c.remove.ensures.outside));
        work = omega (arith, ap (λ (v : Table). v.accesses) c.set_standing.ensures, c.remove.ensures.accesses, ap (λ (n : PageStoreState). n.table.accesses) c.self.view_is);
      };
    }
