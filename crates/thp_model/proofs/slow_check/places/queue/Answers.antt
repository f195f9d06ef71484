use Rattle.std.proofs.Common.{rules, ap, sym, ◌∙◌}
use Rattle.thp_history.specs.Prelude.{queue, queue_after}
use Rattle.thp_history.proofs.Asked.{queue_next}
use Rattle.thp_model.proofs.slow_check.places.queue.Goals as goal

pub loop-event-init : goal.loop-event-init
unfolding queue
loop-event-init c = search rules

pub loop-event-preserved : goal.loop-event-preserved
loop-event-preserved c =
    c.in_ok-queue_event.ensures
    ∙ ap (λ q. queue_after c.args.shape q c.event-item.result.what) c.loop-event.invariant
    ∙ sym (queue_next c.args.shape c.args.events.now c.loop-event.event-index c.event-item.result c.loop-event-test.true c.event-item.is)
