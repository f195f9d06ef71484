use Rattle.std.proofs.Common.{◌≡◌, ◌||◌, refl, ap, sym, ◌∙◌}
use Rattle.thp_history.specs.Prelude.{some_event}
use Rattle.thp_history.proofs.Asked.{some_next}
use Rattle.thp_history.proofs.ListPlaces.{get_at}
use Rattle.thp_history.proofs.SomeEvents.{some_passes}
use Rattle.thp_model.proofs.slow_check.passing.any_event.Goals as goal

pub loop-event-init : goal.loop-event-init
unfolding some_event
loop-event-init g c = λ t asks. refl

pub returns-then-test : goal.returns-then-test
returns-then-test g c = λ t asks.
    let e = c.event-item.result in
    let reported : c.test.result ≡ t e.what = asks e.what c.test.result (record { shown = _; shows = refl; says = record { met = c.test.ensures } }) in
    sym (some_passes t c.args.events.now c.loop-event.event-index e (get_at c.args.events.now c.loop-event.event-index e c.loop-event-test.true c.event-item.is) (sym reported ∙ c.if-test.true))

pub loop-event-preserved : goal.loop-event-preserved
loop-event-preserved g c = λ t asks.
    let e = c.event-item.result in
    let reported : c.test.result ≡ t e.what = asks e.what c.test.result (record { shown = _; shows = refl; says = record { met = c.test.ensures } }) in
    some_next t c.args.events.now c.loop-event.event-index e c.loop-event-test.true c.event-item.is
    ∙ ap (λ b. b || t e.what) (c.loop-event.invariant t asks) ∙ sym reported ∙ c.if-test.false
