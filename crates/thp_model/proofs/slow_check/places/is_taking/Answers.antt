use Rattle.std.proofs.Common.{refl, sym, ◌∙◌}
use Rattle.thp_history.specs.Prelude.{is_taking}
use Rattle.thp_history.proofs.Asked.{taking_next}
use Rattle.thp_model.proofs.slow_check.places.is_taking.Goals as goal

pub loop-event-init : goal.loop-event-init
unfolding is_taking
loop-event-init c = refl

pub loop-event-preserved : goal.loop-event-preserved
loop-event-preserved c =
    c.takes_by-taking.ensures
    ∙ sym (taking_next c.args.events.now c.args.caller c.loop-event.event-index c.event-item.result c.loop-event-test.true c.event-item.is)
