use Rattle.std.proofs.Common.{List, take, sym, subst}
use Rattle.thp_history.specs.Prelude.{IsLegal, FitsBy}
use Rattle.thp_history.specs.declared.events.Event.{Event}
use Rattle.thp_history.proofs.LegalSteps.{first_misfit, legal_push}
use Rattle.thp_history.proofs.ListPlaces.{step_of}
use Rattle.thp_model.proofs.slow_check.check.Goals as goal

pub returns-in-Ok-false-clause-illegal : goal.returns-in-Ok-false-clause-illegal
returns-in-Ok-false-clause-illegal c =
    let h = c.args.events.now in
    let k = c.loop-place.place in
    let e : Event = c.index-events-place.result in
    let P : List Event → Type 0 = λ l. FitsBy c.args.shape (take k h) l e.caller e.what in
    first_misfit c.args.shape h k e c.loop-place-test.true c.index-events-place.is c.loop-place.invariant
    (λ f.
    let fits = c.in-Ok-false.ensures.1 (subst P (sym (step_of h k e c.loop-place-test.true c.index-events-place.is)) f) in
    absurd (cc (fits, c.in-Ok-false.field-0-test)))

pub loop-place-preserved : goal.loop-place-preserved
loop-place-preserved c =
    let h = c.args.events.now in
    let k = c.loop-place.place in
    let e : Event = c.index-events-place.result in
    let step = step_of h k e c.loop-place-test.true c.index-events-place.is in
    let P : List Event → Type 0 = λ l. FitsBy c.args.shape (take k h) l e.caller e.what in
    subst (IsLegal c.args.shape) (sym step)
    (legal_push c.args.shape (take k h) e c.loop-place.invariant (subst P step (c.in-Ok-true.ensures.0 c.in-Ok-true.field-0-test)))
