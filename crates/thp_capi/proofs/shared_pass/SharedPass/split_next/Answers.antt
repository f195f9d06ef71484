-- The batch and the others stay in front of their flights; what the cell's call did is reported.
use Rattle.std.proofs.Common.{◌≡◌, ◌∙◌, ◌+◌, ◌<◌, Some, None, Ok, arith, get_or, length, refl, set, sym, subst, Err}
use Rattle.std.proofs.lemmas.List.{get_or_default}
use Rattle.thp_cell.specs.Prelude.{Called, DidTry}
use Rattle.thp_capi.specs.PassBatches.{PassNext}
use Rattle.thp_capi.proofs.Opened.{others_stay, own_at, shared_took, next_done, next_failed, next_none, reported_as}
use Rattle.thp_capi.specs.Codes.{fault_in}
use Rattle.thp_capi.proofs.Places.{same_again}
use Rattle.thp_capi.specs.declared.codes.Fault.TheVariants.{NoBatch}
use Rattle.thp_capi.proofs.shared_pass.SharedPass.split_next.Goals as goal

pub split_next-requires-clause-caller : goal.split_next-requires-clause-caller
split_next-requires-clause-caller g c =
    let p = c.self.inside.pass in
    let bs = c.self.inside.batches.items in
    let place = c.in_ok-place.place in
    let lt : place < length bs = subst (λ x. place < length x.batches) (sym c.self.view_is) c.in_ok-place.ensures.inside in
    let b = c.in-Some.batch in
    let is : get_or bs place None ≡ Some b = get_or_default bs place None c.index_mut.result.now lt ∙ sym c.index_mut.ensures.value ∙ c.in-Some.is in
    own_at _ _ _ p bs c.self.invariant place b lt (c.self.invariant.each place b lt is).0

pub invariant_of-self-2 : goal.invariant_of-self-2
invariant_of-self-2 g c =
    let p = c.self.inside.pass in
    let bs = c.self.inside.batches.items in
    let place = c.in_ok-place.place in
    let at : place + p.first ≡ c.args.caller = subst (λ x. place + x.pass.first ≡ c.args.caller) (sym c.self.view_is) c.in_ok-place.ensures.at in
    let lt : place < length bs = subst (λ x. place < length x.batches) (sym c.self.view_is) c.in_ok-place.ensures.inside in
    let b = c.in-Some.batch in
    let is : get_or bs place None ≡ Some b = get_or_default bs place None c.index_mut.result.now lt ∙ sym c.index_mut.ensures.value ∙ c.in-Some.is in
    let was = c.self.invariant.each place b lt is in
    let own : b.caller ≡ c.args.caller = omega (arith, was.0, at) in
    let e = c.split_next.ensures in
    let q = c.split_next.new.pass in
    shared_took _ _ _ _ p q bs _ c.args.caller place c.self.invariant e.same at lt refl c.split_next.new.batch (others_stay p q c.args.caller e.batches) (e.same_caller ∙ own) (e.front was.1) refl

pub invariant_of-self-in_err-tried : goal.invariant_of-self-in_err-tried
invariant_of-self-in_err-tried g c =
    let p = c.self.inside.pass in
    let bs = c.self.inside.batches.items in
    let place = c.in_ok-place.place in
    let at : place + p.first ≡ c.args.caller = subst (λ x. place + x.pass.first ≡ c.args.caller) (sym c.self.view_is) c.in_ok-place.ensures.at in
    let lt : place < length bs = subst (λ x. place < length x.batches) (sym c.self.view_is) c.in_ok-place.ensures.inside in
    let b = c.in-Some.batch in
    let is : get_or bs place None ≡ Some b = get_or_default bs place None c.index_mut.result.now lt ∙ sym c.index_mut.ensures.value ∙ c.in-Some.is in
    let was = c.self.invariant.each place b lt is in
    let own : b.caller ≡ c.args.caller = omega (arith, was.0, at) in
    let e = c.split_next.ensures in
    let q = c.split_next.new.pass in
    shared_took _ _ _ _ p q bs _ c.args.caller place c.self.invariant e.same at lt refl c.split_next.new.batch (others_stay p q c.args.caller e.batches) (e.same_caller ∙ own) (e.front was.1) refl

pub returns : goal.returns
returns g c =
    let p = c.self.inside.pass in
    let bs = c.self.inside.batches.items in
    let place = c.in_ok-place.place in
    let at : place + p.first ≡ c.args.caller = subst (λ x. place + x.pass.first ≡ c.args.caller) (sym c.self.view_is) c.in_ok-place.ensures.at in
    let lt : place < length bs = subst (λ x. place < length x.batches) (sym c.self.view_is) c.in_ok-place.ensures.inside in
    let b = c.in-Some.batch in
    let is : get_or bs place None ≡ Some b = get_or_default bs place None c.index_mut.result.now lt ∙ sym c.index_mut.ensures.value ∙ c.in-Some.is in
    let own : b.caller ≡ c.args.caller = omega (arith, (c.self.invariant.each place b lt is).0, at) in
    let e = c.split_next.ensures in
    let q = c.split_next.new.pass in
    let b' = c.split_next.new.batch in
    let mark = c.self.inside.mark in
    let new = set bs place (Some b') in
    subst (λ x. PassNext c.args.caller x (record { mark = mark; pass = q; batches = new }) (Ok c.of.result)) c.self.view_is
    (next_done mark p q bs new c.args.caller place e.same at lt b b' c.of.result c.of.ensures.kind is own refl e.same_caller e.same_pages
    (subst (λ t. Called p q b.caller (DidTry p.shape b b' t)) (sym c.of.ensures.value) c.in_ok-tried.ensures.recorded))

pub invariant_of-self : goal.invariant_of-self
invariant_of-self g c =
    let bs = c.self.inside.batches.items in
    let place = c.in_ok-place.place in
    let lt : place < length bs = subst (λ x. place < length x.batches) (sym c.self.view_is) c.in_ok-place.ensures.inside in
    let same = same_again bs place c.index_mut.result.now (get_or_default bs place None c.index_mut.result.now lt ∙ sym c.index_mut.ensures.value) in
    rw same c.self.invariant

pub returns-in_default : goal.returns-in_default
returns-in_default g c =
    let p = c.self.inside.pass in
    let bs = c.self.inside.batches.items in
    let place = c.in_ok-place.place in
    let at : place + p.first ≡ c.args.caller = subst (λ x. place + x.pass.first ≡ c.args.caller) (sym c.self.view_is) c.in_ok-place.ensures.at in
    let lt : place < length bs = subst (λ x. place < length x.batches) (sym c.self.view_is) c.in_ok-place.ensures.inside in
    let x = c.index_mut.result.now in
    let here = get_or_default bs place None x lt ∙ sym c.index_mut.ensures.value in
    subst (λ s. PassNext c.args.caller s (record { mark = c.self.inside.mark; pass = p; batches = set bs place x }) (Err NoBatch)) c.self.view_is
    (next_none c.self.inside.mark p bs _ c.args.caller place at lt (here ∙ c.in_default.is) (same_again bs place x here))

pub returns-in_err-tried : goal.returns-in_err-tried
returns-in_err-tried g c =
    let p = c.self.inside.pass in
    let bs = c.self.inside.batches.items in
    let place = c.in_ok-place.place in
    let at : place + p.first ≡ c.args.caller = subst (λ x. place + x.pass.first ≡ c.args.caller) (sym c.self.view_is) c.in_ok-place.ensures.at in
    let lt : place < length bs = subst (λ x. place < length x.batches) (sym c.self.view_is) c.in_ok-place.ensures.inside in
    let b = c.in-Some.batch in
    let is : get_or bs place None ≡ Some b = get_or_default bs place None c.index_mut.result.now lt ∙ sym c.index_mut.ensures.value ∙ c.in-Some.is in
    let own : b.caller ≡ c.args.caller = omega (arith, (c.self.invariant.each place b lt is).0, at) in
    let q = c.split_next.new.pass in
    let b' = c.split_next.new.batch in
    let fault = c.in_err-tried.field-0.0 in
    rw (reported_as _ (fault_in fault) c.from_residual-in_err-tried.ensures.1)
    (subst (λ x. PassNext c.args.caller x (record { mark = c.self.inside.mark; pass = q; batches = set bs place (Some b') }) (Err (fault_in fault))) c.self.view_is
    (next_failed c.self.inside.mark p q bs _ c.args.caller place c.split_next.ensures.same at lt b b' fault is own refl c.in_err-tried.ensures.kept c.in_err-tried.ensures.failed))
