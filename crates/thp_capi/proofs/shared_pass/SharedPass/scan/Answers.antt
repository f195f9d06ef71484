-- The open batches stay in front of their flights.
use Rattle.thp_capi.proofs.Opened.{shared_stays, only_front}
use Rattle.std.proofs.Common.{Ok, subst}
use Rattle.thp_capi.specs.Passes.{PassScan}
use Rattle.thp_capi.proofs.shared_pass.SharedPass.scan.Goals as goal

pub invariant_of-self-2 : goal.invariant_of-self-2
invariant_of-self-2 g c = shared_stays _ _ _ c.self.inside.pass c.scan.new.pass _ c.self.invariant c.scan.ensures.same c.scan.ensures.batches

pub returns : goal.returns
returns g c =
    subst (λ x. PassScan c.args.caller c.args.n x (record { mark = c.self.inside.mark; pass = c.scan.new.pass; batches = c.self.inside.batches.items }) (Ok c.in_ok-scan.field-0)) c.self.view_is
    (only_front c.self.inside.mark c.self.inside.pass c.scan.new.pass c.self.inside.batches.items c.scan.ensures.same, c.in_ok-scan.ensures.recorded, tt)

pub invariant_of-self : goal.invariant_of-self
invariant_of-self g c = shared_stays _ _ _ c.self.inside.pass c.scan.new.pass _ c.self.invariant c.scan.ensures.same c.scan.ensures.batches
