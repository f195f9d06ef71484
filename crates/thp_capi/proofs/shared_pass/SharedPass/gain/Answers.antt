-- The open batches stay in front of their flights.
use Rattle.thp_capi.proofs.Opened.{shared_stays, only_front}
use Rattle.std.proofs.Common.{Ok, subst}
use Rattle.thp_capi.specs.Passes.{PassOne}
use Rattle.thp_history.specs.Prelude.{gain_call, gain_what}
use Rattle.thp_capi.proofs.shared_pass.SharedPass.gain.Goals as goal

pub invariant_of-self : goal.invariant_of-self
invariant_of-self g c = shared_stays _ _ _ c.self.inside.pass c.gain.new.pass _ c.self.invariant c.gain.ensures.same c.gain.ensures.batches

pub returns : goal.returns
returns g c =
    subst (λ x. PassOne c.args.caller (gain_call c.args.gain c.args.page) (gain_what c.args.gain c.args.page) x (record { mark = c.self.inside.mark; pass = c.gain.new.pass; batches = c.self.inside.batches.items }) (Ok c.in_ok-gain.field-0)) c.self.view_is
    (only_front c.self.inside.mark c.self.inside.pass c.gain.new.pass c.self.inside.batches.items c.gain.ensures.same, c.in_ok-gain.ensures.recorded, tt)

pub invariant_of-self-2 : goal.invariant_of-self-2
invariant_of-self-2 g c = shared_stays _ _ _ c.self.inside.pass c.gain.new.pass _ c.self.invariant c.gain.ensures.same c.gain.ensures.batches
