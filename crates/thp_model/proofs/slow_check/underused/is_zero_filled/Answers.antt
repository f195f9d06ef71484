use Rattle.std.proofs.Common.{take, refl, ap, sym, ◌∙◌}
use Rattle.thp_history.specs.Prelude.{is_zero_filled, zero_after}
use Rattle.thp_history.proofs.ListPlaces.{step_of}
use Rattle.thp_history.proofs.Pushes.{is_zero_filled_push}
use Rattle.thp_model.proofs.slow_check.underused.is_zero_filled.Goals as goal

pub loop-event-init : goal.loop-event-init
unfolding is_zero_filled
loop-event-init c = refl

pub loop-event-preserved : goal.loop-event-preserved
loop-event-preserved c =
    let e = c.event-item.result in
    let h = take c.loop-event.event-index c.args.events.now in
    c.zero_after-zero.ensures
    ∙ ap (λ b. zero_after c.args.page c.args.i b e.what) c.loop-event.invariant
    ∙ sym (is_zero_filled_push c.args.page c.args.i h e)
    ∙ ap (λ k. is_zero_filled k c.args.page c.args.i) (sym (step_of c.args.events.now c.loop-event.event-index e c.loop-event-test.true c.event-item.is))
