-- The open batches stay in front of their flights.
use Rattle.thp_capi.proofs.Places.{engine_stays}
use Rattle.thp_capi.proofs.engine.Engine.alloc_page.Goals as goal

pub invariant_of-self : goal.invariant_of-self
invariant_of-self g c = engine_stays _ c.alloc_page.new.self _ c.self.invariant c.alloc_page.ensures.fronts
