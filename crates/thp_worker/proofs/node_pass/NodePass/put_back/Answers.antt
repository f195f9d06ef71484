use Rattle.std.proofs.Common.{◌∙◌, ◌-◌, ap, ℕ, None, Some, Err, refl, sym, subst}
use Rattle.std.proofs.lemmas.Option.{slice_get_read}
use Rattle.thp_worker.specs.Prelude.{PutBack, HeldDone}
use Rattle.thp_worker.proofs.CommandLaws.{handed_on}
use Rattle.thp_worker.proofs.HoldingLaws.{place_at, mine, set_same, no_back_held, held_gone, held_stays, back_held, back_failed}
use Rattle.thp_worker.proofs.node_pass.NodePass.put_back.Goals as goal

pub returns-in_default : goal.returns-in_default
returns-in_default g c =
    let bs = c.self.inside.batches.items in
    let place : ℕ = c.args.caller - c.callers-first.result.0 in
    let at = place_at c.self.invariant (sym c.self.view_is) c.requires.caller c.callers-first.ensures.first in
    let is = slice_get_read bs _ place _ refl at.1 c.index.ensures ∙ ap (λ b. Some b) c.in_default.is in
    rw (← c.self.view_is) (no_back_held _ bs _ _ place at.0 at.1 is (sym (set_same _ _ None is)))

pub put_back_all-requires-clause-caller : goal.put_back_all-requires-clause-caller
put_back_all-requires-clause-caller g c =
    let bs = c.self.inside.batches.items in
    let place : ℕ = c.args.caller - c.callers-first.result.0 in
    let at = place_at c.self.invariant (sym c.self.view_is) c.requires.caller c.callers-first.ensures.first in
    let is = slice_get_read bs _ place _ refl at.1 c.index.ensures ∙ ap (λ b. Some b) c.in-Some.is in
    (mine place c.self.invariant at.0 at.2 is).2

pub put_back_all-requires-clause-front : goal.put_back_all-requires-clause-front
put_back_all-requires-clause-front g c =
    let bs = c.self.inside.batches.items in
    let place : ℕ = c.args.caller - c.callers-first.result.0 in
    let at = place_at c.self.invariant (sym c.self.view_is) c.requires.caller c.callers-first.ensures.first in
    let is = slice_get_read bs _ place _ refl at.1 c.index.ensures ∙ ap (λ b. Some b) c.in-Some.is in
    (mine place c.self.invariant at.0 at.2 is).1

pub invariant_of-self : goal.invariant_of-self
invariant_of-self g c = held_stays _ _ _ _ c.self.invariant c.put_back_all.ensures.same c.put_back_all.ensures.batches

pub returns-in_err-put_back_all : goal.returns-in_err-put_back_all
returns-in_err-put_back_all g c =
    let bs = c.self.inside.batches.items in
    let place : ℕ = c.args.caller - c.callers-first.result.0 in
    let at = place_at c.self.invariant (sym c.self.view_is) c.requires.caller c.callers-first.ensures.first in
    let is = slice_get_read bs _ place _ refl at.1 c.index.ensures ∙ ap (λ b. Some b) c.in-Some.is in
    let own = mine place c.self.invariant at.0 at.2 is in
    let fault = c.in_err-put_back_all.field-0.0 in
    rw (handed_on _ fault c.from_residual.ensures.1) (subst (λ x. HeldDone c.args.caller PutBack x (record { pass = c.put_back_all.new.pass; batches = bs }) (Err fault)) c.self.view_is
    (back_failed _ _ _ bs _ _ c.put_back_all.ensures.same at.0 at.1 _ _ own.0 is c.in_err-put_back_all.ensures.failed))

pub invariant_of-self-2 : goal.invariant_of-self-2
invariant_of-self-2 g c =
    let at = place_at c.self.invariant (sym c.self.view_is) c.requires.caller c.callers-first.ensures.first in
    held_gone _ _ _ _ _ _ _ c.self.invariant c.put_back_all.ensures.same c.put_back_all.ensures.batches at.0 at.1 refl

pub returns : goal.returns
returns g c =
    let bs = c.self.inside.batches.items in
    let place : ℕ = c.args.caller - c.callers-first.result.0 in
    let at = place_at c.self.invariant (sym c.self.view_is) c.requires.caller c.callers-first.ensures.first in
    let is = slice_get_read bs _ place _ refl at.1 c.index.ensures ∙ ap (λ b. Some b) c.in-Some.is in
    let own = mine place c.self.invariant at.0 at.2 is in
    rw (← c.self.view_is) (back_held _ _ _ _ _ _ c.put_back_all.ensures.same at.0 at.1 _ _ own.0 is refl c.in_ok-put_back_all.ensures.recorded)
