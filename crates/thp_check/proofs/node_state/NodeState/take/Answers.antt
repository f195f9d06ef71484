use Rattle.std.proofs.Common.{ℕ, List, refl, ap, sym, ◌∙◌, subst, slice_get}
use Rattle.thp_live_pages.specs.Prelude.{TakesFirst}
use Rattle.thp_check.proofs.TakeSteps.{take_goes, take_other, take_none, take_busy, oldest_apart, oldest_held}
use Rattle.thp_check.proofs.Deciding.{unequal, equal}
use Rattle.thp_check.proofs.node_state.NodeState.take.Goals as goal

pub returns-in-None : goal.returns-in-None
returns-in-None c = λ s h m.
    take_none s h c.args.caller c.args.page c.args.self.now m (ap (λ (q : List ℕ). slice_get q 0) (sym c.queue.ensures.value) ∙ sym c.front.ensures ∙ c.in-None.is)

pub returns-then-ne : goal.returns-then-ne
returns-then-ne c = λ s h m.
    take_other s h c.args.caller c.args.page c.take_first-first.result c.args.self.now c.take_first-first.new.self m c.take_first-first.ensures
    (unequal c.take_first-first.result c.args.page (sym c.ne.ensures ∙ c.if-ne.true))

pub returns-then-not-may_take : goal.returns-then-not-may_take
returns-then-not-may_take c = λ s h m.
    let P : ℕ → Type 0 = λ q. TakesFirst c.args.self.now.places c.take_first-first.new.self c.args.caller q in
    take_busy s h c.args.caller c.args.page c.args.self.now c.take_first-first.new.self m (subst P (equal c.take_first-first.result c.args.page (sym c.ne.ensures ∙ c.if-ne.false)) c.take_first-first.ensures)
    (sym c.may_take.ensures ∙ c.if-not-may_take.true)

pub join-requires-clause-absent : goal.join-requires-clause-absent
join-requires-clause-absent c =
    let k = c.requires in
    let P : ℕ → Type 0 = λ q. TakesFirst c.args.self.now.places c.take_first-first.new.self c.args.caller q in
    let took = subst P (equal c.take_first-first.result c.args.page (sym c.ne.ensures ∙ c.if-ne.false)) c.take_first-first.ensures in
    let first = ap (λ (q : List ℕ). slice_get q 0) (sym c.queue.ensures.value) ∙ sym c.front.ensures ∙ c.in-Some.is in
    oldest_apart k.shape k.history c.args.caller c.args.page c.in-Some.block c.args.self.now c.take_first-first.new.self k.means
    (oldest_held c.args.self.now.places c.take_first-first.new.self c.args.caller c.args.page c.in-Some.block took first) took

pub returns : goal.returns
returns c = λ s h m.
    let P : ℕ → Type 0 = λ q. TakesFirst c.args.self.now.places c.take_first-first.new.self c.args.caller q in
    let took = subst P (equal c.take_first-first.result c.args.page (sym c.ne.ensures ∙ c.if-ne.false)) c.take_first-first.ensures in
    let first = ap (λ (q : List ℕ). slice_get q 0) (sym c.queue.ensures.value) ∙ sym c.front.ensures ∙ c.in-Some.is in
    take_goes s h c.args.caller c.args.page c.in-Some.block c.args.self.now _ m
    (oldest_held c.args.self.now.places c.take_first-first.new.self c.args.caller c.args.page c.in-Some.block took first) (sym c.may_take.ensures ∙ c.if-not-may_take.false)
    took c.join.ensures.joined c.join.ensures.size refl refl refl
