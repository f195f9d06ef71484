-- A pop reads the pair of the oldest index, and writes the predecessor of the next one.
use Rattle.std.proofs.Common.{ℕ, List, ◌≡◌, ◌≢◌, ◌⊎◌, Some, ◌∙◌, sym, ap, length, subst, inl, inr, arith, slice_get}
use Rattle.thp_links.specs.Prelude.{Link, NIL, HasEnds, with_prev}
use Rattle.thp_links.proofs.Members.{Contains-from_first}
use Rattle.thp_links.proofs.Replacing.{length-with_prev}
use Rattle.thp_links.proofs.QueueSteps.{stands_popped, second_inside, ends_popped}
use Rattle.thp_links.proofs.OneTable.{Stands-inside}
use Rattle.thp_links.proofs.queue.Queue.pop_front.Goals as goal
use Rattle.thp_links.proofs.queue.Queue.pop_front.Goals.{then-next, else-next}

pub link-next-requires : goal.link-next-requires
link-next-requires g c =
    let first : slice_get c.args.self.now 0 ≡ Some c.in_ok-i.i = sym c.front.ensures ∙ c.in_ok-i.was in
    record { inside = Stands-inside c.in_ok-i.i c.requires.stands (Contains-from_first c.args.self.now c.in_ok-i.i first) }

pub set_prev-requires-clause-inside : goal.set_prev-requires-clause-inside
set_prev-requires-clause-inside g c ne =
    let first : slice_get c.args.self.now 0 ≡ Some c.in_ok-i.i = sym c.front.ensures ∙ c.in_ok-i.was in
    omega (arith, second_inside c.args.self.now _ c.in_ok-i.i c.link-next.result c.requires.stands first c.link-next.ensures.value ne, ap length c.link-next.ensures.links)

pub invariant_of-self : goal.invariant_of-self
invariant_of-self g c =
    let q = c.self.inside in
    let pair = c.link-next.result in
    let first : slice_get c.args.self.now 0 ≡ Some c.in_ok-i.i = sym c.front.ensures ∙ c.in_ok-i.was in
    let ends = subst (λ (xs : List ℕ). HasEnds q.head q.tail q.len xs) c.self.view_is c.self.invariant in
    let tail : ((pair.next ≡ NIL) × (c.if-next.tail ≡ NIL)) ⊎ ((pair.next ≢ NIL) × (c.if-next.tail ≡ q.tail)) = elim c.if-next.branch [
      | then-next w ↦ inl (w.if-next.true, w.tail-is)
      | else-next w ↦ inr (w.if-next.false, w.tail-is)
    ] in
    rw (c.apply.ensures, c.self.view_is) (ends_popped c.args.self.now _ c.in_ok-i.i pair q.head q.tail q.len c.if-next.tail (omega arith) c.requires.stands first c.link-next.ensures.value ends tail)

pub returns-clause-inside : goal.returns-clause-inside
returns-clause-inside g c =
    let first : slice_get c.args.self.now 0 ≡ Some c.in_ok-i.i = sym c.front.ensures ∙ c.in_ok-i.was in
    omega (arith, Stands-inside c.in_ok-i.i c.requires.stands (Contains-from_first c.args.self.now c.in_ok-i.i first), ap length c.set_prev.ensures.links ∙ length-with_prev _ _ _, ap length c.link-next.ensures.links)

pub returns-clause-stands : goal.returns-clause-stands
returns-clause-stands g c =
    let first : slice_get c.args.self.now 0 ≡ Some c.in_ok-i.i = sym c.front.ensures ∙ c.in_ok-i.was in
    let links = c.set_prev.ensures.links ∙ ap (λ (ks : List Link). with_prev ks c.link-next.result.next NIL) c.link-next.ensures.links in
    rw (c.apply.ensures, c.self.view_is) (stands_popped c.args.self.now _ _ c.in_ok-i.i c.link-next.result (omega arith) c.requires.stands first c.link-next.ensures.value links).0

pub returns-clause-outside : goal.returns-clause-outside
returns-clause-outside g c =
    let first : slice_get c.args.self.now 0 ≡ Some c.in_ok-i.i = sym c.front.ensures ∙ c.in_ok-i.was in
    let links = c.set_prev.ensures.links ∙ ap (λ (ks : List Link). with_prev ks c.link-next.result.next NIL) c.link-next.ensures.links in
    (stands_popped c.args.self.now _ _ c.in_ok-i.i c.link-next.result (omega arith) c.requires.stands first c.link-next.ensures.value links).1
