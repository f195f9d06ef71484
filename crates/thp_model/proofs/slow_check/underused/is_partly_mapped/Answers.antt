use Rattle.std.proofs.Common.{◌+◌, take, refl, sym, ◌∙◌}
use Rattle.thp_history.proofs.Asked.{partly_next, or_then, or_else}
use Rattle.thp_history.proofs.Pushes.{is_partly_mapped_none}
use Rattle.thp_model.proofs.slow_check.underused.is_partly_mapped.Goals as goal
use Rattle.thp_model.proofs.slow_check.underused.is_partly_mapped.Goals.{then-partly, else-partly}

pub loop-place-init : goal.loop-place-init
loop-place-init c = sym (is_partly_mapped_none c.args.shape c.args.page)

pub loop-place-preserved : goal.loop-place-preserved
loop-place-preserved c =
    let h = c.args.events.now in
    let k = c.loop-place.place in
    let next = partly_next c.args.shape h k c.index-events-place.result c.args.page (take k h) (take (k + 1) h) c.loop-place-test.true c.index-events-place.is refl refl in
    elim c.if-partly.branch [
      | then-partly w ↦ w.partly-is ∙ w.if-partly.true ∙ sym (or_then _ _ _ next (sym c.loop-place.invariant ∙ w.if-partly.true))
      | else-partly w ↦ w.partly-is ∙ c.unmaps_part-unmapped.ensures ∙ sym (or_else _ _ _ next (sym c.loop-place.invariant ∙ w.if-partly.false))
    ]
