-- The open batches stay in front of their flights.
use Rattle.thp_capi.proofs.Opened.{shared_stays, only_front}
use Rattle.std.proofs.Common.{Ok, subst}
use Rattle.thp_capi.specs.Passes.{PassOne}
use Rattle.thp_history.specs.declared.events.What.TheVariants.{Close}
use Rattle.thp_history.specs.Refusals as call
use Rattle.thp_capi.proofs.shared_pass.SharedPass.close.Goals as goal

pub invariant_of-self : goal.invariant_of-self
invariant_of-self g c = shared_stays _ _ _ c.self.inside.pass c.close.new.pass _ c.self.invariant c.close.ensures.same c.close.ensures.batches

pub returns : goal.returns
returns g c =
    subst (λ x. PassOne c.args.caller call.close Close x (record { mark = c.self.inside.mark; pass = c.close.new.pass; batches = c.self.inside.batches.items }) (Ok c.in_ok-close.field-0)) c.self.view_is
    (only_front c.self.inside.mark c.self.inside.pass c.close.new.pass c.self.inside.batches.items c.close.ensures.same, c.in_ok-close.ensures.recorded, tt)

pub invariant_of-self-2 : goal.invariant_of-self-2
invariant_of-self-2 g c = shared_stays _ _ _ c.self.inside.pass c.close.new.pass _ c.self.invariant c.close.ensures.same c.close.ensures.batches
