-- A push writes the successor of the newest index, and the pair of the new one.
use Rattle.std.proofs.Common.{List, ℕ, ◌≡◌, ◌≢◌, ◌⊎◌, ◌∙◌, length, set, ap, subst, inl, inr, arith}
use Rattle.thp_links.specs.Prelude.{Link, NIL, last_or, between, HasEnds}
use Rattle.thp_links.proofs.Replacing.{length-with_next}
use Rattle.thp_links.proofs.QueueSteps.{tail_inside, room, ends_pushed, pushed, stands_pushed}
use Rattle.thp_links.proofs.queue.Queue.push_back.Goals as goal
use Rattle.thp_links.proofs.queue.Queue.push_back.Goals.{then-self-eq0, else-self-eq0}

pub set_next-requires-clause-inside : goal.set_next-requires-clause-inside
set_next-requires-clause-inside g c =
    let q = c.self.inside in
    tail_inside q.head q.tail q.len c.args.self.now _ (subst (λ (xs : List ℕ). HasEnds q.head q.tail q.len xs) c.self.view_is c.self.invariant) c.requires.stands

pub set_link-requires : goal.set_link-requires
set_link-requires g c = record { inside = omega (arith, ap length c.set_next.ensures.links, length-with_next (g.T.LinkTable.links c.args.table.now) c.self.inside.tail c.args.i, c.requires.inside) }

pub overflow_add-self : goal.overflow_add-self
overflow_add-self g c =
    let fits = room c.args.i c.args.self.now _ c.requires.stands c.requires.inside c.requires.absent in
    let count = c.self.invariant.count ∙ ap (λ (xs : List ℕ). length xs) c.self.view_is in
    omega arith

pub invariant_of-self : goal.invariant_of-self
invariant_of-self g c =
    let q = c.self.inside in
    let head : ((q.len ≡ 0) × (c.if-self-eq0.head ≡ c.args.i)) ⊎ ((q.len ≢ 0) × (c.if-self-eq0.head ≡ q.head)) = elim c.if-self-eq0.branch [
      | then-self-eq0 w ↦ inl (w.if-self-eq0.true, w.head-is)
      | else-self-eq0 w ↦ inr (w.if-self-eq0.false, w.head-is)
    ] in
    rw c.apply.ensures (ends_pushed q.head q.tail q.len c.if-self-eq0.head c.args.i q.list c.self.invariant head)

pub returns-clause-stands : goal.returns-clause-stands
unfolding pushed
returns-clause-stands g c =
    let pair : Link = between c.self.inside.tail NIL in
    let last = c.self.invariant.last ∙ ap (λ (xs : List ℕ). last_or NIL xs) c.self.view_is in
    let links = c.set_link.ensures.links ∙ ap (λ (ks : List Link). set ks c.args.i pair) c.set_next.ensures.links in
    rw (c.apply.ensures, c.self.view_is) (stands_pushed c.args.i c.self.inside.tail c.args.self.now _ _ (omega arith) c.requires.stands c.requires.inside c.requires.absent last links).0

pub returns-clause-outside : goal.returns-clause-outside
unfolding pushed
returns-clause-outside g c =
    let pair : Link = between c.self.inside.tail NIL in
    let last = c.self.invariant.last ∙ ap (λ (xs : List ℕ). last_or NIL xs) c.self.view_is in
    let links = c.set_link.ensures.links ∙ ap (λ (ks : List Link). set ks c.args.i pair) c.set_next.ensures.links in
    rw (c.apply.ensures, c.self.view_is) (stands_pushed c.args.i c.self.inside.tail c.args.self.now _ _ (omega arith) c.requires.stands c.requires.inside c.requires.absent last links).1
