use Rattle.std.proofs.Common.{List, take, sym, subst, arith}
use Rattle.thp_history.specs.declared.events.Event.{Event}
use Rattle.thp_history.proofs.LegalSteps.{first_misfit}
use Rattle.thp_history.proofs.ListPlaces.{step_of}
use Rattle.thp_check.specs.Prelude.{Means}
use Rattle.thp_check.proofs.Beginning.{few_pages}
use Rattle.thp_check.proofs.checking.check.Goals as goal

pub admit-requires-clause-small : goal.admit-requires-clause-small
admit-requires-clause-small c = omega (arith, few_pages c.args.shape c.args.events.now c.loop-place.place c.loop-place.state c.loop-place.invariant)

pub returns-in-Err-admit-clause-illegal : goal.returns-in-Err-admit-clause-illegal
returns-in-Err-admit-clause-illegal c =
    first_misfit c.args.shape c.args.events.now c.loop-place.place c.index-events-place.result c.loop-place-test.true c.index-events-place.is c.loop-place.invariant.kept.node.legal
    (c.in-Err-admit.ensures c.args.shape (take c.loop-place.place c.args.events.now) c.loop-place.invariant).0

pub loop-place-preserved : goal.loop-place-preserved
loop-place-preserved c =
    let before : List Event = take c.loop-place.place c.args.events.now in
    let e : Event = c.index-events-place.result in
    let P : List Event → Type 0 = λ h. Means c.args.shape h c.admit.new.self in
    subst P (sym (step_of c.args.events.now c.loop-place.place e c.loop-place-test.true c.index-events-place.is))
    (c.in_default.ensures c.args.shape before c.loop-place.invariant).1
