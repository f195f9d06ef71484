-- The open batches stay in front of their flights.
use Rattle.thp_capi.proofs.Opened.{continues, shared_stays}
use Rattle.thp_capi.proofs.shared_pass.SharedPass.count.Goals as goal

pub invariant_of-self : goal.invariant_of-self
invariant_of-self g c = shared_stays _ _ _ c.self.inside.pass c.count.new.pass _ c.self.invariant (continues c.self.inside.pass c.count.new.pass c.count.ensures.follows.same) c.count.ensures.follows.batches
