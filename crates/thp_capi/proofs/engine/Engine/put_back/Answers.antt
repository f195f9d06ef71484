-- The other open batches stay in front of their flights; the pages of this one are its caller's.
use Rattle.std.proofs.Common.{◌≡◌, ◌∙◌, ◌<◌, IfSome, Some, None, get_or, length, refl, subst, sym}
use Rattle.std.proofs.lemmas.List.{get_or_default}
use Rattle.thp_history.specs.Prelude.{still_flying}
use Rattle.thp_node.specs.Prelude.{back_reply}
use Rattle.thp_capi.specs.Calls.{BackReplies}
use Rattle.thp_capi.proofs.Places.{engine_closed, own_front}
use Rattle.thp_capi.proofs.engine.Engine.put_back.Goals as goal

pub invariant_of-self-2 : goal.invariant_of-self-2
invariant_of-self-2 g c =
    let lt : c.in_ok-place.place < length c.self.inside.batches.items = subst (λ x. c.in_ok-place.place < length x.batches) (sym c.self.view_is) c.in_ok-place.ensures.inside in
    engine_closed _ c.put_back_all.new.self _ c.self.invariant _ c.in_ok-place.place c.put_back_all.ensures.fronts lt refl

pub returns-clause-reply : goal.returns-clause-reply
returns-clause-reply g c =
    let n = c.self.inside.node in
    let bs = c.self.inside.batches.items in
    let place = c.in_ok-place.place in
    let r = c.in_ok-reply.reply in
    let lt : place < length bs = subst (λ x. place < length x.batches) (sym c.self.view_is) c.in_ok-place.ensures.inside in
    let is : get_or bs place None ≡ Some c.in-Some.batch = get_or_default bs place None c.index.result.now lt ∙ sym c.index.ensures ∙ c.in-Some.is in
    subst (λ x. BackReplies c.args.caller x r) c.self.view_is
    (subst (λ d. BackReplies d (record { node = n; batches = bs }) r) c.in_ok-place.ensures.at
    (subst (λ o. IfSome o (λ b. r ≡ back_reply n.shape n.journal (still_flying n.journal place b.pages))) (sym is)
    (subst (λ k. r ≡ back_reply n.shape n.journal (still_flying n.journal k c.in-Some.batch.pages)) (own_front _ n _ c.self.invariant place c.in-Some.batch lt is).0 c.in_ok-reply.ensures.reply)))
