-- The other open batches stay in front of their flights.
use Rattle.std.proofs.Common.{ap, set, ◌<◌, length, subst, sym}
use Rattle.thp_capi.proofs.Places.{engine_closed}
use Rattle.thp_capi.proofs.engine.Engine.abandon.Goals as goal

pub invariant_of-self-2 : goal.invariant_of-self-2
invariant_of-self-2 g c =
    let lt : c.in_ok-place.place < length c.self.inside.batches.items = subst (λ x. c.in_ok-place.place < length x.batches) (sym c.self.view_is) c.in_ok-place.ensures.inside in
    engine_closed _ c.self.inside.node _ c.self.invariant _ c.in_ok-place.place (λ b front. front) lt (ap (set c.self.inside.batches.items c.in_ok-place.place) c.take.ensures.after)

pub invariant_of-self : goal.invariant_of-self
invariant_of-self g c =
    let lt : c.in_ok-place.place < length c.self.inside.batches.items = subst (λ x. c.in_ok-place.place < length x.batches) (sym c.self.view_is) c.in_ok-place.ensures.inside in
    engine_closed _ c.self.inside.node _ c.self.invariant _ c.in_ok-place.place (λ b front. front) lt (ap (set c.self.inside.batches.items c.in_ok-place.place) c.take.ensures.after)
