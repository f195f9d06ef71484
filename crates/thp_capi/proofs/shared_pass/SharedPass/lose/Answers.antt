-- The open batches stay in front of their flights.
use Rattle.thp_capi.proofs.Opened.{shared_stays, only_front}
use Rattle.std.proofs.Common.{Ok, subst}
use Rattle.thp_capi.specs.Passes.{PassLost}
use Rattle.thp_history.specs.Prelude.{loss_call, loss_what}
use Rattle.thp_capi.proofs.shared_pass.SharedPass.lose.Goals as goal

pub invariant_of-self-2 : goal.invariant_of-self-2
invariant_of-self-2 g c = shared_stays _ _ _ c.self.inside.pass c.lose.new.pass _ c.self.invariant c.lose.ensures.same c.lose.ensures.batches

pub returns : goal.returns
returns g c =
    subst (λ x. PassLost c.args.caller (loss_call c.args.loss c.args.page) c.args.page (loss_what c.args.loss c.args.page) x (record { mark = c.self.inside.mark; pass = c.lose.new.pass; batches = c.self.inside.batches.items }) (Ok c.of.result)) c.self.view_is
    (only_front c.self.inside.mark c.self.inside.pass c.lose.new.pass c.self.inside.batches.items c.lose.ensures.same, (c.in_ok-done.done, c.of.ensures.outcome, c.of.ensures.released, c.in_ok-done.ensures.recorded), tt)

pub invariant_of-self : goal.invariant_of-self
invariant_of-self g c = shared_stays _ _ _ c.self.inside.pass c.lose.new.pass _ c.self.invariant c.lose.ensures.same c.lose.ensures.batches
