-- The other open batches stay in front of their flights.
use Rattle.std.proofs.Common.{ap, set, ◌≡◌, ◌+◌, ◌<◌, length, refl, subst, sym}
use Rattle.thp_capi.proofs.Opened.{shared_closed}
use Rattle.thp_capi.proofs.shared_pass.SharedPass.abandon.Goals as goal

pub invariant_of-self-2 : goal.invariant_of-self-2
invariant_of-self-2 g c =
    let p = c.self.inside.pass in
    let at : c.in_ok-place.place + p.first ≡ c.args.caller = subst (λ x. c.in_ok-place.place + x.pass.first ≡ c.args.caller) (sym c.self.view_is) c.in_ok-place.ensures.at in
    let lt : c.in_ok-place.place < length c.self.inside.batches.items = subst (λ x. c.in_ok-place.place < length x.batches) (sym c.self.view_is) c.in_ok-place.ensures.inside in
    shared_closed _ _ _ _ p p _ _ c.args.caller c.in_ok-place.place c.self.invariant refl at lt refl (λ b has front. front) (ap (set c.self.inside.batches.items c.in_ok-place.place) c.take.ensures.after)

pub invariant_of-self : goal.invariant_of-self
invariant_of-self g c =
    let p = c.self.inside.pass in
    let at : c.in_ok-place.place + p.first ≡ c.args.caller = subst (λ x. c.in_ok-place.place + x.pass.first ≡ c.args.caller) (sym c.self.view_is) c.in_ok-place.ensures.at in
    let lt : c.in_ok-place.place < length c.self.inside.batches.items = subst (λ x. c.in_ok-place.place < length x.batches) (sym c.self.view_is) c.in_ok-place.ensures.inside in
    shared_closed _ _ _ _ p p _ _ c.args.caller c.in_ok-place.place c.self.invariant refl at lt refl (λ b has front. front) (ap (set c.self.inside.batches.items c.in_ok-place.place) c.take.ensures.after)
