use Rattle.std.proofs.Common.{◌≡◌, ℕ, ◌≤◌, Bool, List, Option, Some, IfSome, refl, ap, sym, ◌∙◌, subst, arith, slice_set}
use Rattle.thp_history.specs.declared.events.Outcome.{Outcome}
use Rattle.thp_history.specs.declared.events.Outcome.TheVariants as outcome
use Rattle.thp_history.specs.declared.page_call.Loss.{Loss}
use Rattle.thp_history.specs.Prelude.{Loses, PageState}
use Rattle.thp_page.specs.declared.page.Change.{Change}
use Rattle.thp_page.specs.declared.standing.Standing.{Standing}
use Rattle.thp_page.specs.Prelude.{slot_at, with_slot, paged, page_in, IsChange}
use Rattle.thp_live_pages.specs.Outcomes.{outcome_by, released_after}
use Rattle.thp_live_pages.specs.Prelude.{AtSlot, PageStoreState, Edits, Lost, slot_after, queue_by_outcome, leaves_batch, is_nowhere}
use Rattle.thp_live_pages.proofs.PageUses.{outcome_is_by, released_is_by}
use Rattle.thp_live_pages.proofs.Losing.{left_outside, left_taken, paged_taken, queued_outside}
use Rattle.thp_live_pages.proofs.Relinking.{linked_paged, seen_inside, seen_taken, edited_slot, edits_as, edits_then, edits_none, edits_settled, if_at}
use Rattle.thp_live_pages.proofs.page_store.PageStore.lose.Goals as goal

-- the store after a loss of a page, before its outcome is carried out
reduced : PageStoreState → ℕ → PageState → PageStoreState
reduced old b q = record old { table = with_slot old.table b (paged (slot_at old.table b) q) }

-- a loss whose outcome is carried out
lost : (loss : Loss) (closed : Bool) (old new now : PageStoreState) (b : ℕ) (p q : PageState) (change : Change) (s : Standing) (o k : Outcome) (frames : List Bool) (left : Option ℕ) (n : ℕ) →
    old ≡ now → Some p ≡ page_in (slot_at old.table b) → IfSome (slot_at old.table b) (λ y. s ≡ y.standing) → Loses loss p q → IsChange p q change →
    o ≡ outcome_by q change closed (is_nowhere s) → frames ≡ released_after q change o → o ≡ k → left ≡ leaves_batch k s →
    AtSlot (reduced old b q).table b (λ y. Edits (reduced old b q) new b (slot_after k y) (queue_by_outcome k b old.queue) n) → n ≤ 6 →
    AtSlot now.table b (λ x. Lost loss closed x now new b (record { outcome = o; released = frames }) left)
unfolding reduced
lost loss closed old new now b p q change s o k frames left n same page standing w by is gives it leaves then few =
    subst (λ (t : PageStoreState). AtSlot t.table b (λ x. Lost loss closed x t new b (record { outcome = o; released = frames }) left)) same
    (λ x at.
    let of_page : Some p ≡ Some x.page = page ∙ ap page_in at in
    let here : p ≡ x.page = cc in
    let on : s ≡ x.standing = if_at (slot_at old.table b) x (λ y. s ≡ y.standing) at standing in
    let what : o ≡ _ = is ∙ outcome_is_by loss p q change closed (is_nowhere s) w by in
    let edits : Edits old (reduced old b q) b (Some (record x { page = q })) old.queue 0 =
    record { slots = ap (λ t. slice_set old.table.slots b (paged t q)) at; order = refl; queue_is = refl; links = λ i m e. refl; work = omega arith } in
    record {
      page = q;
      how = subst (λ (u : PageState). Loses loss u q) here w;
      outcome_is = rw (← here, ← on) what;
      released_is = rw (← here) (gives ∙ released_is_by loss p q change closed _ o w by what);
      left_is = rw (← on, it) leaves;
      edits = rw it (edits_settled old (reduced old b q) new b (record x { page = q }) k n edits (then _ (edited_slot old (reduced old b q) b x _ _ 0 at edits)) few);
    })

pub returns-in-Stays-clause-lost : goal.returns-in-Stays-clause-lost
unfolding reduced
returns-in-Stays-clause-lost c =
    lost c.args.loss c.args.closed _ _ _ c.args.block _ _ c.lose.new.change c.standing-standing.result c.outcome_of-done.result outcome.Stays c.give_back.new.released _ 0 c.self.view_is c.occupant_mut-page.ensures.value c.standing-standing.ensures c.in_ok-lose.ensures.counts c.in_ok-lose.ensures.change
    c.outcome_of-done.ensures c.give_back.ensures c.in-Stays.is refl (λ y at. edits_none _ c.args.block y at) (omega arith)

pub returns-in-Queued-clause-lost : goal.returns-in-Queued-clause-lost
unfolding reduced
returns-in-Queued-clause-lost c =
    lost c.args.loss c.args.closed _ _ _ c.args.block _ _ c.lose.new.change c.standing-standing.result c.outcome_of-done.result outcome.Queued c.give_back.new.released _ 4 c.self.view_is c.occupant_mut-page.ensures.value c.standing-standing.ensures c.in_ok-lose.ensures.counts c.in_ok-lose.ensures.change
    c.outcome_of-done.ensures c.give_back.ensures c.in-Queued.is refl c.enqueue.ensures (omega arith)

pub returns-in-Freed-clause-lost : goal.returns-in-Freed-clause-lost
unfolding reduced
returns-in-Freed-clause-lost c =
    lost c.args.loss c.args.closed _ _ _ c.args.block _ _ c.lose.new.change c.standing-standing.result c.outcome_of-done.result outcome.Freed c.give_back.new.released _ 6 c.self.view_is c.occupant_mut-page.ensures.value c.standing-standing.ensures c.in_ok-lose.ensures.counts c.in_ok-lose.ensures.change
    c.outcome_of-done.ensures c.give_back.ensures c.in-Freed.is c.batch_of-left.ensures
    (λ y at. edits_as _ _ _ _ _ _ 6 6 c.leave_queue.ensures.edits.queue_is (omega arith) (edits_then _ _ _ _ _ _ _ _ 6 0 c.leave_queue.ensures.edits c.vacate.ensures)) (omega arith)

pub enqueue-requires-clause-occupied : goal.enqueue-requires-clause-occupied
enqueue-requires-clause-occupied c = paged_taken c.self.inside.table c.args.block _ (seen_taken _ _ _ c.args.block c.self.view_is c.requires.occupied)

pub enqueue-requires-clause-outside : goal.enqueue-requires-clause-outside
enqueue-requires-clause-outside c =
    queued_outside c.self.inside.table c.args.block _ c.lose.new.change c.args.closed c.standing-standing.result (seen_taken _ _ _ c.args.block c.self.view_is c.requires.occupied) c.standing-standing.ensures
    (sym c.outcome_of-done.ensures ∙ c.in-Queued.is)

pub leave_queue-requires : goal.leave_queue-requires
leave_queue-requires c = paged_taken c.self.inside.table c.args.block _ (seen_taken _ _ _ c.args.block c.self.view_is c.requires.occupied)

pub vacate-requires-clause-occupied : goal.vacate-requires-clause-occupied
vacate-requires-clause-occupied c = left_taken _ _ c.args.block (paged_taken c.self.inside.table c.args.block _ (seen_taken _ _ _ c.args.block c.self.view_is c.requires.occupied)) c.leave_queue.ensures

pub vacate-requires-clause-outside : goal.vacate-requires-clause-outside
vacate-requires-clause-outside c = left_outside _ _ c.args.block (paged_taken c.self.inside.table c.args.block _ (seen_taken _ _ _ c.args.block c.self.view_is c.requires.occupied)) c.leave_queue.ensures

pub invariant_of-self : goal.invariant_of-self
invariant_of-self c = linked_paged c.self.inside.table c.self.inside.queue c.args.block c.lose.new.self c.self.invariant (seen_taken _ _ _ c.args.block c.self.view_is c.requires.occupied)

pub invariant_of-self-in-Stays : goal.invariant_of-self-in-Stays
invariant_of-self-in-Stays c = linked_paged c.self.inside.table c.self.inside.queue c.args.block c.lose.new.self c.self.invariant (seen_taken _ _ _ c.args.block c.self.view_is c.requires.occupied)

pub invariant_of-self-in-Queued : goal.invariant_of-self-in-Queued
invariant_of-self-in-Queued c = linked_paged c.self.inside.table c.self.inside.queue c.args.block c.lose.new.self c.self.invariant (seen_taken _ _ _ c.args.block c.self.view_is c.requires.occupied)

pub invariant_of-self-in-Freed : goal.invariant_of-self-in-Freed
invariant_of-self-in-Freed c = linked_paged c.self.inside.table c.self.inside.queue c.args.block c.lose.new.self c.self.invariant (seen_taken _ _ _ c.args.block c.self.view_is c.requires.occupied)

pub standing-standing-requires-clause-inside : goal.standing-standing-requires-clause-inside
standing-standing-requires-clause-inside c = seen_inside _ _ _ c.args.block c.self.view_is c.self.invariant c.requires.occupied

pub standing-standing-requires-clause-occupied : goal.standing-standing-requires-clause-occupied
standing-standing-requires-clause-occupied c = seen_taken _ _ _ c.args.block c.self.view_is c.requires.occupied

pub occupant_mut-page-requires-clause-inside : goal.occupant_mut-page-requires-clause-inside
occupant_mut-page-requires-clause-inside c = seen_inside _ _ _ c.args.block c.self.view_is c.self.invariant c.requires.occupied

pub occupant_mut-page-requires-clause-occupied : goal.occupant_mut-page-requires-clause-occupied
occupant_mut-page-requires-clause-occupied c = seen_taken _ _ _ c.args.block c.self.view_is c.requires.occupied
