-- A removal reads the pair of the index, and makes its neighbours each other's.
use Rattle.std.proofs.Common.{List, ℕ, ◌≡◌, ◌≢◌, ◌⊎◌, ◌∙◌, length, ap, subst, inl, inr, arith}
use Rattle.thp_links.specs.Prelude.{Link, NIL, with_next, with_prev, HasEnds}
use Rattle.thp_links.proofs.Replacing.{length-with_next}
use Rattle.thp_links.proofs.QueueSteps.{prev_inside, next_inside, ends_removed, unlinked, stands_removed}
use Rattle.thp_links.proofs.OneTable.{Stands-inside}
use Rattle.thp_links.proofs.queue.Queue.remove.Goals as goal
use Rattle.thp_links.proofs.queue.Queue.remove.Goals.{then-prev, else-prev, then-next, else-next}

pub link-prev-requires : goal.link-prev-requires
link-prev-requires g c = record { inside = Stands-inside c.args.i c.requires.stands c.requires.present }

pub set_next-requires-clause-inside : goal.set_next-requires-clause-inside
set_next-requires-clause-inside g c ne =
    omega (arith, prev_inside c.args.i c.args.self.now _ (omega arith) c.requires.stands c.requires.present _ c.link-prev.ensures.value ne, ap length c.link-prev.ensures.links)

pub set_prev-requires-clause-small : goal.set_prev-requires-clause-small
set_prev-requires-clause-small g c =
    omega (arith, ap length c.link-prev.ensures.links, ap length c.set_next.ensures.links ∙ length-with_next _ _ _)

pub set_prev-requires-clause-inside : goal.set_prev-requires-clause-inside
set_prev-requires-clause-inside g c ne =
    omega (arith, next_inside c.args.i c.args.self.now _ (omega arith) c.requires.stands c.requires.present _ c.link-prev.ensures.value ne, ap length c.link-prev.ensures.links, ap length c.set_next.ensures.links ∙ length-with_next _ _ _)

pub invariant_of-self : goal.invariant_of-self
invariant_of-self g c =
    let q = c.self.inside in
    let pair = c.link-prev.result in
    let ends = subst (λ (xs : List ℕ). HasEnds q.head q.tail q.len xs) c.self.view_is c.self.invariant in
    let head : ((pair.prev ≡ NIL) × (c.if-prev.head ≡ pair.next)) ⊎ ((pair.prev ≢ NIL) × (c.if-prev.head ≡ q.head)) = elim c.if-prev.branch [
      | then-prev w ↦ inl (w.if-prev.true, w.head-is)
      | else-prev w ↦ inr (w.if-prev.false, w.head-is)
    ] in
    let tail : ((pair.next ≡ NIL) × (c.if-next.tail ≡ pair.prev)) ⊎ ((pair.next ≢ NIL) × (c.if-next.tail ≡ q.tail)) = elim c.if-next.branch [
      | then-next w ↦ inl (w.if-next.true, w.tail-is)
      | else-next w ↦ inr (w.if-next.false, w.tail-is)
    ] in
    rw (c.apply.ensures, c.self.view_is) (ends_removed c.args.i c.args.self.now _ (omega arith) c.requires.stands c.requires.present pair c.link-prev.ensures.value q.head q.tail q.len c.if-prev.head c.if-next.tail ends head tail)

pub returns-clause-stands : goal.returns-clause-stands
unfolding unlinked
returns-clause-stands g c =
    let pair = c.link-prev.result in
    let links = c.set_prev.ensures.links ∙ ap (λ (ks : List Link). with_prev ks pair.next pair.prev) (c.set_next.ensures.links ∙ ap (λ (ks : List Link). with_next ks pair.prev pair.next) c.link-prev.ensures.links) in
    rw (c.apply.ensures, c.self.view_is) (stands_removed c.args.i c.args.self.now _ (omega arith) c.requires.stands c.requires.present pair c.link-prev.ensures.value _ links).0

pub returns-clause-outside : goal.returns-clause-outside
unfolding unlinked
returns-clause-outside g c =
    let pair = c.link-prev.result in
    let links = c.set_prev.ensures.links ∙ ap (λ (ks : List Link). with_prev ks pair.next pair.prev) (c.set_next.ensures.links ∙ ap (λ (ks : List Link). with_next ks pair.prev pair.next) c.link-prev.ensures.links) in
    (stands_removed c.args.i c.args.self.now _ (omega arith) c.requires.stands c.requires.present pair c.link-prev.ensures.value _ links).1
