use Rattle.std.proofs.Common.{◌∙◌, ◌-◌, ℕ, Some, None, Err, set, sym, ap, refl, subst, set-set}
use Rattle.std.proofs.lemmas.Option.{slice_get_read}
use Rattle.thp_worker.specs.Prelude.{SplitNext, HeldDone}
use Rattle.thp_worker.proofs.CommandLaws.{handed_on}
use Rattle.thp_worker.proofs.HoldingLaws.{place_at, mine, no_split_held, held_again, split_held, split_failed}
use Rattle.thp_worker.proofs.node_pass.NodePass.split_next.Goals as goal

pub returns-in_default : goal.returns-in_default
returns-in_default g c =
    let bs = c.self.inside.batches.items in
    let place : ℕ = c.args.caller - c.callers-first.result.0 in
    let at = place_at c.self.invariant (sym c.self.view_is) c.requires.caller c.callers-first.ensures.first in
    let is = slice_get_read bs _ place _ refl at.1 c.index_mut.ensures.value ∙ ap (λ b. Some b) c.in_default.is in
    rw (← c.self.view_is) (no_split_held _ bs _ _ place at.0 at.1 is (ap (λ b. set bs place b) c.in_default.is))

pub split_next-requires-clause-caller : goal.split_next-requires-clause-caller
split_next-requires-clause-caller g c =
    let bs = c.self.inside.batches.items in
    let place : ℕ = c.args.caller - c.callers-first.result.0 in
    let at = place_at c.self.invariant (sym c.self.view_is) c.requires.caller c.callers-first.ensures.first in
    let is = slice_get_read bs _ place _ refl at.1 c.index_mut.ensures.value ∙ ap (λ b. Some b) c.in-Some.is in
    (mine place c.self.invariant at.0 at.2 is).2

pub invariant_of-self-2 : goal.invariant_of-self-2
invariant_of-self-2 g c =
    let bs = c.self.inside.batches.items in
    let place : ℕ = c.args.caller - c.callers-first.result.0 in
    let at = place_at c.self.invariant (sym c.self.view_is) c.requires.caller c.callers-first.ensures.first in
    let is = slice_get_read bs _ place _ refl at.1 c.index_mut.ensures.value ∙ ap (λ b. Some b) c.in-Some.is in
    let own = mine place c.self.invariant at.0 at.2 is in
    let e = c.split_next.ensures in
    held_again _ _ _ bs _ _ place c.split_next.new.batch c.self.invariant e.same e.batches at.0 at.1 (sym (set-set bs place None (Some c.split_next.new.batch))) (e.same_caller ∙ own.0) (e.front own.1)

pub invariant_of-self-in_err-split_next : goal.invariant_of-self-in_err-split_next
invariant_of-self-in_err-split_next g c =
    let bs = c.self.inside.batches.items in
    let place : ℕ = c.args.caller - c.callers-first.result.0 in
    let at = place_at c.self.invariant (sym c.self.view_is) c.requires.caller c.callers-first.ensures.first in
    let is = slice_get_read bs _ place _ refl at.1 c.index_mut.ensures.value ∙ ap (λ b. Some b) c.in-Some.is in
    let own = mine place c.self.invariant at.0 at.2 is in
    let e = c.split_next.ensures in
    held_again _ _ _ bs _ _ place c.split_next.new.batch c.self.invariant e.same e.batches at.0 at.1 (sym (set-set bs place None (Some c.split_next.new.batch))) (e.same_caller ∙ own.0) (e.front own.1)

pub returns-in_err-split_next : goal.returns-in_err-split_next
returns-in_err-split_next g c =
    let bs = c.self.inside.batches.items in
    let place : ℕ = c.args.caller - c.callers-first.result.0 in
    let at = place_at c.self.invariant (sym c.self.view_is) c.requires.caller c.callers-first.ensures.first in
    let is = slice_get_read bs _ place _ refl at.1 c.index_mut.ensures.value ∙ ap (λ b. Some b) c.in-Some.is in
    let own = mine place c.self.invariant at.0 at.2 is in
    let e = c.split_next.ensures in
    let new = set bs place (Some c.split_next.new.batch) in
    let now = sym (set-set bs place None (Some c.split_next.new.batch)) in
    let fault = c.in_err-split_next.field-0.0 in
    rw (handed_on _ fault c.from_residual.ensures.1) (subst (λ x. HeldDone c.args.caller SplitNext x (record { pass = c.split_next.new.pass; batches = new }) (Err fault)) c.self.view_is
    (split_failed _ _ bs new _ place e.same at.0 at.1 c.in-Some.batch c.split_next.new.batch fault own.0 is c.in_err-split_next.ensures.kept now c.in_err-split_next.ensures.failed))

pub returns : goal.returns
returns g c =
    let bs = c.self.inside.batches.items in
    let place : ℕ = c.args.caller - c.callers-first.result.0 in
    let at = place_at c.self.invariant (sym c.self.view_is) c.requires.caller c.callers-first.ensures.first in
    let is = slice_get_read bs _ place _ refl at.1 c.index_mut.ensures.value ∙ ap (λ b. Some b) c.in-Some.is in
    let own = mine place c.self.invariant at.0 at.2 is in
    let e = c.split_next.ensures in
    let new = set bs place (Some c.split_next.new.batch) in
    let now = sym (set-set bs place None (Some c.split_next.new.batch)) in
    rw (← c.self.view_is) (split_held _ _ bs new _ place e.same at.0 at.1 c.in-Some.batch c.split_next.new.batch c.in_ok-split_next.field-0 own.0 is now e.same_pages c.in_ok-split_next.ensures.recorded)
