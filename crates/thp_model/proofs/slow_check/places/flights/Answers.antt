use Rattle.std.proofs.Common.{rules, ap, sym, ◌∙◌}
use Rattle.thp_history.specs.Prelude.{flights, flights_after}
use Rattle.thp_history.proofs.Asked.{flights_next}
use Rattle.thp_model.proofs.slow_check.places.flights.Goals as goal

pub loop-event-init : goal.loop-event-init
unfolding flights
loop-event-init c = search rules

pub loop-event-preserved : goal.loop-event-preserved
loop-event-preserved c =
    c.in_ok-flights_event.ensures
    ∙ ap (λ f. flights_after f c.event-item.result.caller c.event-item.result.what) c.loop-event.invariant
    ∙ sym (flights_next c.args.events.now c.loop-event.event-index c.event-item.result c.loop-event-test.true c.event-item.is)
