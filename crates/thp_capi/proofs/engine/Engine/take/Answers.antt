-- The new batch is in front of its flight, and the others stay so.
use Rattle.std.proofs.Common.{ap, arith, refl}
use Rattle.thp_node.specs.Prelude.{BatchState}
use Rattle.thp_capi.proofs.Places.{engine_took}
use Rattle.thp_capi.proofs.engine.Engine.take.Goals as goal

pub invariant_of-self-2 : goal.invariant_of-self-2
invariant_of-self-2 g c =
    engine_took _ c.take.new.self _ c.self.invariant _ c.args.caller c.in_ok-batch.batch c.take.ensures.fronts (omega (arith, c.self.invariant.places, c.in_ok-check_caller.ensures.ok))
    (ap (λ (x : BatchState). x.caller) c.in_ok-batch.ensures.batch) c.in_ok-batch.ensures.front refl
