use Rattle.std.proofs.Common.{◌≡◌, refl, ap, sym, ◌∙◌, arith, take_all}
use Rattle.thp_history.specs.Prelude.{count_of}
use Rattle.thp_history.proofs.Asked.{count_next}
use Rattle.thp_history.proofs.Bools.{one_if, none_if}
use Rattle.thp_model.proofs.slow_check.passing.count_events.Goals as goal
use Rattle.thp_model.proofs.slow_check.passing.count_events.Goals.{then-test, else-test}

pub loop-event-init : goal.loop-event-init
unfolding count_of
loop-event-init g c = record { few = omega arith; counted = λ t asks. refl }

pub overflow_add-count : goal.overflow_add-count
overflow_add-count g c = omega arith

pub loop-event-preserved : goal.loop-event-preserved
loop-event-preserved g c = record {
  few = elim c.if-test.branch [ then-test w ↦ omega arith | else-test w ↦ omega arith ];
  counted = λ t asks.
      let e = c.event-item.result in
      let reported : c.test.result ≡ t e.what = asks e.what c.test.result (record { shown = _; shows = refl; says = record { met = c.test.ensures } }) in
      let next = count_next t c.args.events.now c.loop-event.event-index e c.loop-event-test.true c.event-item.is in
      let before = c.loop-event.invariant.counted t asks in
      elim c.if-test.branch [
        | then-test w ↦ let one = one_if (t e.what) (sym reported ∙ w.if-test.true) in omega (arith, next, before, one)
        | else-test w ↦ let none = none_if (t e.what) (sym reported ∙ w.if-test.false) in omega (arith, next, before, none)
      ];
}

pub returns : goal.returns
returns g c = λ t asks. c.loop-event.invariant.counted t asks ∙ ap (count_of t) (take_all c.loop-event.event-index c.args.events.now (omega arith))
