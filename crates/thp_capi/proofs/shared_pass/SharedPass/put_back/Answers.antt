-- The other open batches stay in front of their flights; what the cell's call did is reported.
use Rattle.std.proofs.Common.{◌≡◌, ◌∙◌, ◌+◌, ◌<◌, Some, None, Ok, arith, get_or, length, refl, set, sym, subst, Err}
use Rattle.std.proofs.lemmas.List.{get_or_default}
use Rattle.thp_capi.specs.PassBatches.{PassBack}
use Rattle.thp_capi.proofs.Opened.{back_done, own_at, shared_closed, shared_stays, back_failed, reported_as}
use Rattle.thp_capi.specs.Codes.{fault_in}
use Rattle.thp_capi.proofs.shared_pass.SharedPass.put_back.Goals as goal

pub put_back_all-requires-clause-caller : goal.put_back_all-requires-clause-caller
put_back_all-requires-clause-caller g c =
    let p = c.self.inside.pass in
    let bs = c.self.inside.batches.items in
    let place = c.in_ok-place.place in
    let lt : place < length bs = subst (λ x. place < length x.batches) (sym c.self.view_is) c.in_ok-place.ensures.inside in
    let b = c.in-Some.batch in
    let is : get_or bs place None ≡ Some b = get_or_default bs place None c.index.result.now lt ∙ sym c.index.ensures ∙ c.in-Some.is in
    own_at _ _ _ p bs c.self.invariant place b lt (c.self.invariant.each place b lt is).0

pub invariant_of-self : goal.invariant_of-self
invariant_of-self g c = shared_stays _ _ _ c.self.inside.pass c.put_back_all.new.pass _ c.self.invariant c.put_back_all.ensures.same c.put_back_all.ensures.batches

pub invariant_of-self-2 : goal.invariant_of-self-2
invariant_of-self-2 g c =
    let p = c.self.inside.pass in
    let bs = c.self.inside.batches.items in
    let place = c.in_ok-place.place in
    let lt : place < length bs = subst (λ x. place < length x.batches) (sym c.self.view_is) c.in_ok-place.ensures.inside in
    let at : place + p.first ≡ c.args.caller = subst (λ x. place + x.pass.first ≡ c.args.caller) (sym c.self.view_is) c.in_ok-place.ensures.at in
    shared_closed _ _ _ _ p c.put_back_all.new.pass _ _ c.args.caller place c.self.invariant c.put_back_all.ensures.same at lt refl c.put_back_all.ensures.batches refl

pub returns : goal.returns
returns g c =
    let p = c.self.inside.pass in
    let bs = c.self.inside.batches.items in
    let place = c.in_ok-place.place in
    let lt : place < length bs = subst (λ x. place < length x.batches) (sym c.self.view_is) c.in_ok-place.ensures.inside in
    let at : place + p.first ≡ c.args.caller = subst (λ x. place + x.pass.first ≡ c.args.caller) (sym c.self.view_is) c.in_ok-place.ensures.at in
    let b = c.in-Some.batch in
    let is : get_or bs place None ≡ Some b = get_or_default bs place None c.index.result.now lt ∙ sym c.index.ensures ∙ c.in-Some.is in
    let own : b.caller ≡ c.args.caller = omega (arith, (c.self.invariant.each place b lt is).0, at) in
    subst (λ x. PassBack c.args.caller x (record { mark = c.self.inside.mark; pass = c.put_back_all.new.pass; batches = set bs place None }) (Ok c.in_ok-reply.reply)) c.self.view_is
    (back_done c.self.inside.mark p c.put_back_all.new.pass bs _ c.args.caller place c.put_back_all.ensures.same at lt b c.in_ok-reply.reply is own refl c.in_ok-reply.ensures.recorded)

pub returns-in_err-reply : goal.returns-in_err-reply
returns-in_err-reply g c =
    let p = c.self.inside.pass in
    let bs = c.self.inside.batches.items in
    let place = c.in_ok-place.place in
    let at : place + p.first ≡ c.args.caller = subst (λ x. place + x.pass.first ≡ c.args.caller) (sym c.self.view_is) c.in_ok-place.ensures.at in
    let lt : place < length bs = subst (λ x. place < length x.batches) (sym c.self.view_is) c.in_ok-place.ensures.inside in
    let b = c.in-Some.batch in
    let is : get_or bs place None ≡ Some b = get_or_default bs place None c.index.result.now lt ∙ sym c.index.ensures ∙ c.in-Some.is in
    let own : b.caller ≡ c.args.caller = omega (arith, (c.self.invariant.each place b lt is).0, at) in
    let fault = c.in_err-reply.field-0.0 in
    rw (reported_as _ (fault_in fault) c.from_residual-in_err-reply.ensures.1)
    (subst (λ x. PassBack c.args.caller x (record { mark = c.self.inside.mark; pass = c.put_back_all.new.pass; batches = bs }) (Err (fault_in fault))) c.self.view_is
    (back_failed c.self.inside.mark p c.put_back_all.new.pass bs _ c.args.caller place c.put_back_all.ensures.same at lt b fault is own refl c.in_err-reply.ensures.failed))
