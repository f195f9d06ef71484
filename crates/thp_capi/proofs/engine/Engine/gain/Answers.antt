-- The open batches stay in front of their flights.
use Rattle.thp_capi.proofs.Places.{engine_stays}
use Rattle.thp_capi.proofs.engine.Engine.gain.Goals as goal

pub invariant_of-self : goal.invariant_of-self
invariant_of-self g c = engine_stays _ c.gain.new.self _ c.self.invariant c.gain.ensures.fronts
