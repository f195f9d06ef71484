use Rattle.std.proofs.Common.{◌≡◌, ℕ, [], sym, arith, ◌∙◌, subst}
use Rattle.thp_history.specs.declared.shape.Shape.{Shape}
use Rattle.thp_history.specs.declared.tally.Tally.{Tally}
use Rattle.thp_history.specs.Prelude.{History, AddsUp}
use Rattle.thp_check.specs.Prelude.{NodeState, MarksFree, Means}
use Rattle.thp_live_pages.specs.Prelude.{FreeSet}
use Rattle.thp_check.proofs.FreeMarks.{marks_none}
use Rattle.thp_history.proofs.Totals.{adds_none}
use Rattle.thp_check.proofs.replay.Replay.new.Goals as goal

pub invariant_of-result-2 : goal.invariant_of-result-2
invariant_of-result-2 c =
    let state = c.in_ok-state.state in
    let boxed = c.in_ok-new.field-0.value in
    let same : boxed ≡ state = c.in_ok-new.ensures.ok in
    let shape : state.shape ≡ c.args.shape = c.in_ok-state.ensures.kept.shape_is in
    let A : Tally → Type 0 = λ t. AddsUp c.args.shape [] t in
    let adds : A c.in_ok-new-2.field-0.value = subst A (sym (c.in_ok-new-2.ensures.ok ∙ c.new-4.ensures)) (adds_none c.args.shape) in
    let free = marks_none c.args.shape c.in_ok-free.free c.in_ok-free.ensures.all (omega (arith, c.in_ok-free.ensures.blocks)) in
    let P : FreeSet → Shape → History → NodeState → Type 0 = λ f s h r. Means s h r × MarksFree s h f × AddsUp s h c.in_ok-new-2.field-0.value in
    let here : P c.in_ok-free.free c.args.shape [] state = (c.in_ok-state.ensures, free, adds) in
    let Q : NodeState → Type 0 = λ r. P c.in_ok-free.free r.shape c.new-6.result r in
    let R : FreeSet → Type 0 = λ f. P f boxed.shape c.new-6.result boxed in
    subst R (sym c.free.view_is) (subst Q (sym same) (subst (λ s. P c.in_ok-free.free s c.new-6.result state) (sym shape) (subst (λ h. P c.in_ok-free.free c.args.shape h state) (sym c.new-6.ensures) here)))
