-- The open batches stay, and what is returned are the numbers of what the node returned.
use Rattle.std.proofs.Common.{◌∙◌, Ok, ap, refl, subst}
use Rattle.thp_history.specs.Prelude.{loss_call, loss_what}
use Rattle.thp_capi.specs.Calls.{LoseCall}
use Rattle.thp_capi.specs.Replies.{MasksSet, outcome_number}
use Rattle.thp_capi.proofs.Places.{engine_stays}
use Rattle.thp_capi.proofs.engine.Engine.lose.Goals as goal

pub returns : goal.returns
returns g c =
    let e = c.in_ok-lose.ensures in
    subst (λ x. LoseCall c.args.caller (loss_call c.args.loss c.args.page) c.args.page (loss_what c.args.loss c.args.page) x (record { node = c.lose.new.self; batches = c.self.inside.batches.items }) (Ok c.of.result)) c.self.view_is
    (refl, e.allowed, rw (← e.outcome, ← e.released) e.recorded, c.of.ensures.outcome ∙ ap outcome_number e.outcome, subst (MasksSet c.of.result.released) e.released c.of.ensures.released, tt)

pub invariant_of-self : goal.invariant_of-self
invariant_of-self g c = engine_stays _ c.lose.new.self _ c.self.invariant c.lose.ensures.fronts
