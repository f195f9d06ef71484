-- The open batches stay in front of their flights.
use Rattle.thp_capi.proofs.Opened.{shared_stays, only_front}
use Rattle.std.proofs.Common.{Ok, subst}
use Rattle.thp_capi.specs.Passes.{PassAlloc}
use Rattle.thp_capi.proofs.shared_pass.SharedPass.alloc_page.Goals as goal

pub invariant_of-self : goal.invariant_of-self
invariant_of-self g c = shared_stays _ _ _ c.self.inside.pass c.alloc_page.new.pass _ c.self.invariant c.alloc_page.ensures.same c.alloc_page.ensures.batches

pub invariant_of-self-2 : goal.invariant_of-self-2
invariant_of-self-2 g c = shared_stays _ _ _ c.self.inside.pass c.alloc_page.new.pass _ c.self.invariant c.alloc_page.ensures.same c.alloc_page.ensures.batches

pub returns : goal.returns
returns g c =
    subst (λ x. PassAlloc c.args.caller x (record { mark = c.self.inside.mark; pass = c.alloc_page.new.pass; batches = c.self.inside.batches.items }) (Ok c.result.inside.0)) c.self.view_is
    (only_front c.self.inside.mark c.self.inside.pass c.alloc_page.new.pass c.self.inside.batches.items c.alloc_page.ensures.same, rw c.result.view_is c.in_ok-alloc_page.ensures.recorded, tt)
