-- The new batch is in front of its flight, and the others stay so.
use Rattle.std.proofs.Common.{◌≡◌, ◌+◌, ◌<◌, ap, length, refl, subst, sym, ◌∙◌, Option, None, Some, Ok, false, is_some, set, Err}
use Rattle.thp_node.specs.Prelude.{BatchState}
use Rattle.thp_capi.proofs.Opened.{shared_failed, shared_took, take_done, take_failed, reported_as}
use Rattle.std.proofs.lemmas.List.{get_or_default}
use Rattle.thp_capi.specs.PassBatches.{PassTake}
use Rattle.thp_capi.specs.Codes.{fault_in}
use Rattle.thp_capi.proofs.shared_pass.SharedPass.take.Goals as goal

pub invariant_of-self : goal.invariant_of-self
invariant_of-self g c = shared_failed _ _ _ c.self.inside.pass c.take.new.pass _ _ _ _ c.self.invariant c.in_err-batch.ensures.failed

pub invariant_of-self-2 : goal.invariant_of-self-2
invariant_of-self-2 g c =
    let p = c.self.inside.pass in
    let at : c.in_ok-place.place + p.first ≡ c.args.caller = subst (λ x. c.in_ok-place.place + x.pass.first ≡ c.args.caller) (sym c.self.view_is) c.in_ok-place.ensures.at in
    let lt : c.in_ok-place.place < length c.self.inside.batches.items = subst (λ x. c.in_ok-place.place < length x.batches) (sym c.self.view_is) c.in_ok-place.ensures.inside in
    shared_took _ _ _ _ p c.take.new.pass _ _ c.args.caller c.in_ok-place.place c.self.invariant c.take.ensures.same at lt refl
    c.in_ok-batch.batch c.take.ensures.batches (ap (λ (x : BatchState). x.caller) c.in_ok-batch.ensures.recorded.says.batch) c.in_ok-batch.ensures.front refl

none_of : (o : Option BatchState) → is_some o ≡ false → o ≡ None
none_of None e = refl
none_of (Some b) e = absurd cc

pub returns : goal.returns
returns g c =
    let p = c.self.inside.pass in
    let bs = c.self.inside.batches.items in
    let place = c.in_ok-place.place in
    let at : place + p.first ≡ c.args.caller = subst (λ x. place + x.pass.first ≡ c.args.caller) (sym c.self.view_is) c.in_ok-place.ensures.at in
    let lt : place < length bs = subst (λ x. place < length x.batches) (sym c.self.view_is) c.in_ok-place.ensures.inside in
    let q = c.take.new.pass in
    let b = c.in_ok-batch.batch in
    let was = get_or_default bs place None c.index.result.now lt ∙ sym c.index.ensures ∙ none_of c.index.result.now (sym c.is_some.ensures ∙ c.if-is_some.false) in
    subst (λ x. PassTake c.args.caller c.args.n x (record { mark = c.self.inside.mark; pass = q; batches = set bs place (Some b) }) (Ok (length c.pages.result.now))) c.self.view_is
    (take_done c.self.inside.mark p q bs _ c.args.caller place c.take.ensures.same at lt c.args.n _ b was refl c.in_ok-batch.ensures.recorded (rw c.pages.ensures.value refl))

pub returns-in_err-batch : goal.returns-in_err-batch
returns-in_err-batch g c =
    let p = c.self.inside.pass in
    let bs = c.self.inside.batches.items in
    let place = c.in_ok-place.place in
    let at : place + p.first ≡ c.args.caller = subst (λ x. place + x.pass.first ≡ c.args.caller) (sym c.self.view_is) c.in_ok-place.ensures.at in
    let lt : place < length bs = subst (λ x. place < length x.batches) (sym c.self.view_is) c.in_ok-place.ensures.inside in
    let was = get_or_default bs place None c.index.result.now lt ∙ sym c.index.ensures ∙ none_of c.index.result.now (sym c.is_some.ensures ∙ c.if-is_some.false) in
    let why = c.in_err-batch.field-0.0 in
    rw (reported_as _ (fault_in why) c.from_residual-in_err-batch.ensures.1)
    (subst (λ x. PassTake c.args.caller c.args.n x (record { mark = c.self.inside.mark; pass = c.take.new.pass; batches = bs }) (Err (fault_in why))) c.self.view_is
    (take_failed c.self.inside.mark p c.take.new.pass bs bs c.args.caller place c.take.ensures.same at lt c.args.n why was refl c.in_err-batch.ensures.failed))
