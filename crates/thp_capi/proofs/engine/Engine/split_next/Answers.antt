-- The batch and the others stay in front of their flights.
use Rattle.std.proofs.Common.{◌≡◌, ◌∙◌, ◌<◌, Some, None, get_or, length, refl, sym, subst, Err, set}
use Rattle.std.proofs.lemmas.List.{get_or_default}
use Rattle.thp_capi.proofs.Places.{engine_took, own_front, next_none, same_again}
use Rattle.thp_capi.specs.Calls.{NextCall}
use Rattle.thp_capi.specs.declared.codes.Fault.TheVariants.{NoBatch}
use Rattle.thp_capi.proofs.engine.Engine.split_next.Goals as goal

pub invariant_of-self-2 : goal.invariant_of-self-2
invariant_of-self-2 g c =
    let bs = c.self.inside.batches.items in
    let lt : c.in_ok-place.place < length c.self.inside.batches.items = subst (λ x. c.in_ok-place.place < length x.batches) (sym c.self.view_is) c.in_ok-place.ensures.inside in
    let is : get_or bs c.in_ok-place.place None ≡ Some c.in-Some.batch = get_or_default bs c.in_ok-place.place None c.index_mut.result.now lt ∙ sym c.index_mut.ensures.value ∙ c.in-Some.is in
    let own = own_front _ c.self.inside.node _ c.self.invariant c.in_ok-place.place c.in-Some.batch lt is in
    let e = c.split_next.ensures in
    engine_took _ c.split_next.new.self _ c.self.invariant _ c.in_ok-place.place c.split_next.new.batch (λ b other front. e.fronts b front) lt (e.same_caller ∙ own.0) (e.front own.1) refl

pub invariant_of-self-in_err-split_next : goal.invariant_of-self-in_err-split_next
invariant_of-self-in_err-split_next g c =
    let bs = c.self.inside.batches.items in
    let lt : c.in_ok-place.place < length c.self.inside.batches.items = subst (λ x. c.in_ok-place.place < length x.batches) (sym c.self.view_is) c.in_ok-place.ensures.inside in
    let is : get_or bs c.in_ok-place.place None ≡ Some c.in-Some.batch = get_or_default bs c.in_ok-place.place None c.index_mut.result.now lt ∙ sym c.index_mut.ensures.value ∙ c.in-Some.is in
    let own = own_front _ c.self.inside.node _ c.self.invariant c.in_ok-place.place c.in-Some.batch lt is in
    let e = c.split_next.ensures in
    engine_took _ c.split_next.new.self _ c.self.invariant _ c.in_ok-place.place c.split_next.new.batch (λ b other front. e.fronts b front) lt (e.same_caller ∙ own.0) (e.front own.1) refl

pub invariant_of-self : goal.invariant_of-self
invariant_of-self g c =
    let bs = c.self.inside.batches.items in
    let place = c.in_ok-place.place in
    let lt : place < length bs = subst (λ x. place < length x.batches) (sym c.self.view_is) c.in_ok-place.ensures.inside in
    let same = same_again bs place c.index_mut.result.now (get_or_default bs place None c.index_mut.result.now lt ∙ sym c.index_mut.ensures.value) in
    rw same c.self.invariant

pub returns-in_default : goal.returns-in_default
returns-in_default g c =
    let n = c.self.inside.node in
    let bs = c.self.inside.batches.items in
    let place = c.in_ok-place.place in
    let x = c.index_mut.result.now in
    let lt : place < length bs = subst (λ e. place < length e.batches) (sym c.self.view_is) c.in_ok-place.ensures.inside in
    let here = get_or_default bs place None x lt ∙ sym c.index_mut.ensures.value in
    subst (λ e. NextCall c.args.caller e (record { node = n; batches = set bs place x }) (Err NoBatch)) c.self.view_is
    (next_none n bs _ c.args.caller (subst (λ k. get_or bs k None ≡ None) c.in_ok-place.ensures.at (here ∙ c.in_default.is)) (same_again bs place x here))
