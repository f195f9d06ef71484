-- The open batches stay in front of their flights.
use Rattle.thp_capi.proofs.Places.{engine_stays}
use Rattle.thp_capi.proofs.engine.Engine.scan.Goals as goal

pub invariant_of-self : goal.invariant_of-self
invariant_of-self g c = engine_stays _ c.scan.new.self _ c.self.invariant c.scan.ensures.fronts
