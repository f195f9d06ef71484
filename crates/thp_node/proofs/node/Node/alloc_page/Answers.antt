use Rattle.std.proofs.Common.{◌≡◌, ◌<◌, ℕ, Bool, [], ◌∷◌, ◌++◌, refl, sym, ◌∙◌, subst, ap, arith, inl, inr, IsSome, length}
use Rattle.std.specs.Bool.{OnTrue, OnFalse}
use Rattle.thp_history.specs.declared.shape.Shape.{Shape}
use Rattle.thp_history.specs.declared.events.What.TheVariants as what
use Rattle.thp_history.specs.Prelude.{History, by, Fits, refusal, shrinks_underused}
use Rattle.thp_history.specs.Refusals as call
use Rattle.thp_page.specs.Prelude.{slot_at}
use Rattle.thp_live_pages.specs.Prelude.{HasFree, IsNode}
use Rattle.thp_node.specs.Prelude.{JournalState, NodeState}
use Rattle.thp_node.proofs.CallLemmas.{node_of, fails_as}
use Rattle.thp_live_pages.proofs.Closing.{refused_alloc, refused_full, allowed_alloc, next_is_new}
use Rattle.thp_live_pages.proofs.Homing.{legal_homed}
use Rattle.thp_live_pages.proofs.ListEvents.{placed_fits, placed_node}
use Rattle.thp_node.proofs.Losing.{node_relinked}
use Rattle.thp_node.proofs.Fronts.{fronts_grown}
use Rattle.thp_node.proofs.node.Node.alloc_page.Goals as goal

pub returns-then-is_closed-clause-refused : goal.returns-then-is_closed-clause-refused
returns-then-is_closed-clause-refused g c = record {
  same = refl;
  cause = inl (ap (λ (n : NodeState). refusal n.shape n.journal call.alloc_page) (sym c.self.view_is)
      ∙ refused_alloc c.self.inside.journal.shape c.self.inside.journal.events (sym c.is_closed.ensures ∙ c.if-is_closed.true));
}

pub returns-then-not-has_free-clause-refused : goal.returns-then-not-has_free-clause-refused
returns-then-not-has_free-clause-refused g c =
    let j = c.self.inside.journal in
    let b = c.self.inside.blocks in
    let P : Bool → Type 0 = λ z. OnFalse z ((i : ℕ) → i < length b.table.slots → IsSome (slot_at b.table i)) in
    record {
      same = refl;
      cause = inl (ap (λ (n : NodeState). refusal n.shape n.journal call.alloc_page) (sym c.self.view_is)
          ∙ refused_full j.shape j.events b.table b.queue c.self.invariant (sym c.is_closed.ensures ∙ c.if-is_closed.false) (subst P c.if-not-has_free.true c.has_free.ensures.none));
    }

pub returns-in_err-reserve-clause-refused : goal.returns-in_err-reserve-clause-refused
returns-in_err-reserve-clause-refused g c =
    let j = c.self.inside.journal in
    let b = c.self.inside.blocks in
    let P : Bool → Type 0 = λ z. OnTrue z (HasFree b.table) in
    fails_as c.from_residual.result c.in_err-reserve.field-0.0 _ c.from_residual.ensures.1 record {
      same = ap (λ (k : JournalState). node_of k b) c.in_err-reserve.ensures.err ∙ c.self.view_is;
      cause = inr (
        ap (λ (n : NodeState). refusal n.shape n.journal call.alloc_page) (sym c.self.view_is)
            ∙ allowed_alloc j.shape j.events b.table b.queue c.self.invariant (sym c.is_closed.ensures ∙ c.if-is_closed.false) (subst P c.if-not-has_free.false c.has_free.ensures.some),
        c.in_err-reserve.ensures.memory,
        omega (arith, ap (λ (n : NodeState). n.room) c.self.view_is, c.in_err-reserve.ensures.full),
      );
    }

pub place-block-requires-clause-new : goal.place-block-requires-clause-new
place-block-requires-clause-new g c =
    let j = c.self.inside.journal in
    let b = c.self.inside.blocks in
    let number : c.next.result ≡ Rattle.thp_history.specs.Counts.allocations j.events = c.next.ensures ∙ ap (λ h. Rattle.thp_history.specs.Counts.allocations h) c.in_ok-reserve.ensures.events in
    next_is_new j.shape j.events b.table b.queue c.next.result c.self.invariant number

pub record-requires-clause-fits : goal.record-requires-clause-fits
record-requires-clause-fits g c =
    let j = c.self.inside.journal in
    let b = c.self.inside.blocks in
    let P : Bool → Type 0 = λ z. OnTrue z (HasFree b.table) in
    let number : c.next.result ≡ Rattle.thp_history.specs.Counts.allocations j.events = c.next.ensures ∙ ap (λ h. Rattle.thp_history.specs.Counts.allocations h) c.in_ok-reserve.ensures.events in
    let allowed = allowed_alloc j.shape j.events b.table b.queue c.self.invariant (sym c.is_closed.ensures ∙ c.if-is_closed.false) (subst P c.if-not-has_free.false c.has_free.ensures.some) in
    let fits : Fits j.shape j.events (by c.args.caller (what.Alloc c.next.result c.place-block.result)) =
    placed_fits j.shape j.events c.args.caller c.next.result c.place-block.result b.table b.queue (legal_homed j.shape j.events c.self.invariant.legal) c.self.invariant allowed number c.place-block.ensures.inside c.place-block.ensures.free in
    let F : Shape → History → Type 0 = λ s h. Fits s h (by c.args.caller (what.Alloc c.next.result c.place-block.result)) in
    subst (λ h. F c.reserve.new.self.shape h) (sym c.in_ok-reserve.ensures.events) (subst (λ s. F s j.events) (sym c.in_ok-reserve.ensures.shape) fits)

pub invariant_of-self-2 : goal.invariant_of-self-2
invariant_of-self-2 g c =
    let j = c.self.inside.journal in
    let b = c.self.inside.blocks in
    let P : Bool → Type 0 = λ z. OnTrue z (HasFree b.table) in
    let number : c.next.result ≡ Rattle.thp_history.specs.Counts.allocations j.events = c.next.ensures ∙ ap (λ h. Rattle.thp_history.specs.Counts.allocations h) c.in_ok-reserve.ensures.events in
    let allowed = allowed_alloc j.shape j.events b.table b.queue c.self.invariant (sym c.is_closed.ensures ∙ c.if-is_closed.false) (subst P c.if-not-has_free.false c.has_free.ensures.some) in
    let homed = legal_homed j.shape j.events c.self.invariant.legal in
    let w = what.Alloc c.next.result c.place-block.result in
    let fits : Fits j.shape j.events (by c.args.caller w) =
    placed_fits j.shape j.events c.args.caller c.next.result c.place-block.result b.table b.queue homed c.self.invariant allowed number c.place-block.ensures.inside c.place-block.ensures.free in
    let put = c.place-block.ensures.placed in
    let switch : c.shrinks_underused-queued.result ≡ shrinks_underused j.shape = c.shrinks_underused-queued.ensures ∙ ap shrinks_underused (c.shape.ensures.value ∙ c.in_ok-reserve.ensures.shape) in
    let node : IsNode j.shape (j.events ++ by c.args.caller w ∷ []) c.place-block.new.self.table c.place-block.new.self.queue =
    placed_node j.shape j.events c.args.caller c.next.result c.place-block.result homed fits c.shrinks_underused-queued.result put.between c.place-block.new.self
    (node_relinked j.shape j.events b put.between 2 put.relinks c.self.invariant) (omega (arith, c.place-block.ensures.inside, ap length put.relinks.slots)) switch put.placed in
    let N : Shape → History → Type 0 = λ s h. IsNode s h c.place-block.new.self.table c.place-block.new.self.queue in
    let shape : c.record.new.self.shape ≡ j.shape = c.record.ensures.shape ∙ c.in_ok-reserve.ensures.shape in
    let events : c.record.new.self.events ≡ j.events ++ by c.args.caller w ∷ [] = c.record.ensures.events ∙ ap (λ h. h ++ by c.args.caller w ∷ []) c.in_ok-reserve.ensures.events in
    subst (λ h. N c.record.new.self.shape h) (sym events) (subst (λ s. N s (j.events ++ by c.args.caller w ∷ [])) (sym shape) node)

pub returns-clause-allowed : goal.returns-clause-allowed
returns-clause-allowed g c =
    let j = c.self.inside.journal in
    let b = c.self.inside.blocks in
    let P : Bool → Type 0 = λ z. OnTrue z (HasFree b.table) in
    ap (λ (n : NodeState). refusal n.shape n.journal call.alloc_page) (sym c.self.view_is)
    ∙ allowed_alloc j.shape j.events b.table b.queue c.self.invariant (sym c.is_closed.ensures ∙ c.if-is_closed.false) (subst P c.if-not-has_free.false c.has_free.ensures.some)

pub returns-clause-fronts : goal.returns-clause-fronts
returns-clause-fronts g c =
    fronts_grown c.args.self.now.journal _ _
    (c.record.ensures.events ∙ ap (λ h. h ++ by c.args.caller (what.Alloc c.next.result c.place-block.result) ∷ []) (c.in_ok-reserve.ensures.events ∙ ap (λ (n : NodeState). n.journal) c.self.view_is))
    (λ d. refl)
