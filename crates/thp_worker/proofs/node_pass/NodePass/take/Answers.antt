use Rattle.std.proofs.Common.{◌≡◌, ◌∙◌, ◌-◌, ℕ, List, Option, Some, None, true, false, is_some, set, refl, sym, ap, subst, Err, slice_get, set-set}
use Rattle.std.proofs.lemmas.Option.{slice_get_read}
use Rattle.thp_node.specs.Prelude.{BatchState}
use Rattle.thp_worker.specs.Prelude.{Take, HeldDone, IsHolding}
use Rattle.thp_worker.proofs.HoldingLaws.{place_at, beside_held, held_taken, held_untaken, shut_again, taken_by, take_held, take_failed}
use Rattle.thp_worker.proofs.node_pass.NodePass.take.Goals as goal

none_of : (o : Option BatchState) → is_some o ≡ false → o ≡ None
none_of None e = refl
none_of (Some b) e = absurd cc

some_of : (o : Option BatchState) → is_some o ≡ true → (b : BatchState) × (o ≡ Some b)
some_of None e = absurd cc
some_of (Some b) e = (b, refl)

pub returns-then-is_some : goal.returns-then-is_some
returns-then-is_some g c =
    let at = place_at c.self.invariant (sym c.self.view_is) c.requires.caller c.callers-first.ensures.first in
    let some = some_of c.index.result.now (sym c.is_some.ensures ∙ c.if-is_some.true) in
    let is = slice_get_read c.self.inside.batches.items _ _ _ refl at.1 c.index.ensures ∙ ap (λ b. Some b) some.1 in
    rw (← c.self.view_is) (beside_held _ _ _ _ c.args.count some.0 at.0 at.1 is)

-- the batches behind a take
taken : (bs : List (Option BatchState)) (place : ℕ) (none b : BatchState) → set (set bs place (Some none)) place (Some b) ≡ set bs place (Some b)
taken bs place none b = set-set bs place (Some none) (Some b)

pub invariant_of-self : goal.invariant_of-self
invariant_of-self g c =
    let place : ℕ = c.args.caller - c.callers-first.result.0 in
    let at = place_at c.self.invariant (sym c.self.view_is) c.requires.caller c.callers-first.ensures.first in
    let e = c.take_into.ensures in
    held_taken _ _ c.take_into.new.pass _ _ c.args.caller _ _ c.self.invariant e.same e.batches at.0 at.1 (taken _ place _ c.take_into.new.batch) (taken_by _ _ _ _ _ c.in-Ok.ensures.recorded) c.in-Ok.ensures.front

pub returns-in-Ok : goal.returns-in-Ok
returns-in-Ok g c =
    let place : ℕ = c.args.caller - c.callers-first.result.0 in
    let at = place_at c.self.invariant (sym c.self.view_is) c.requires.caller c.callers-first.ensures.first in
    let is = slice_get_read c.self.inside.batches.items _ _ _ refl at.1 c.index.ensures ∙ ap (λ b. Some b) (none_of c.index.result.now (sym c.is_some.ensures ∙ c.if-is_some.false)) in
    rw (← c.self.view_is) (take_held _ _ _ _ _ _ c.take_into.ensures.same at.0 at.1 c.args.count _ _ is (taken _ place _ c.take_into.new.batch) (rw c.pages.ensures.value refl) c.in-Ok.ensures.recorded)

-- the batches behind a take that failed
untaken : (bs : List (Option BatchState)) (place : ℕ) (none b : BatchState) → slice_get bs place ≡ Some None → bs ≡ set (set (set bs place (Some none)) place (Some b)) place None
untaken bs place none b is = sym (shut_again bs place (Some none) (Some b) is)

pub invariant_of-self-in-Err : goal.invariant_of-self-in-Err
invariant_of-self-in-Err g c =
    let place : ℕ = c.args.caller - c.callers-first.result.0 in
    let at = place_at c.self.invariant (sym c.self.view_is) c.requires.caller c.callers-first.ensures.first in
    let is = slice_get_read c.self.inside.batches.items _ _ _ refl at.1 c.index.ensures ∙ ap (λ b. Some b) (none_of c.index.result.now (sym c.is_some.ensures ∙ c.if-is_some.false)) in
    subst (IsHolding c.self.inside.cell.now c.take_into.new.pass) (untaken _ place _ c.take_into.new.batch is)
    (held_untaken _ _ _ _ _ _ c.self.invariant c.take_into.ensures.same c.take_into.ensures.batches at.0 at.1 is)

pub returns-in-Err : goal.returns-in-Err
returns-in-Err g c =
    let place : ℕ = c.args.caller - c.callers-first.result.0 in
    let at = place_at c.self.invariant (sym c.self.view_is) c.requires.caller c.callers-first.ensures.first in
    let is = slice_get_read c.self.inside.batches.items _ _ _ refl at.1 c.index.ensures ∙ ap (λ b. Some b) (none_of c.index.result.now (sym c.is_some.ensures ∙ c.if-is_some.false)) in
    let same = untaken c.self.inside.batches.items place c.none.result c.take_into.new.batch is in
    subst (λ x. HeldDone c.args.caller (Take c.args.count) x (record { pass = c.take_into.new.pass; batches = set (set (set c.self.inside.batches.items place (Some c.none.result)) place (Some c.take_into.new.batch)) place None }) (Err c.in-Err.fault)) c.self.view_is
    (subst (λ (l : List (Option BatchState)). HeldDone c.args.caller (Take c.args.count) (record { pass = c.self.inside.pass; batches = c.self.inside.batches.items }) (record { pass = c.take_into.new.pass; batches = l }) (Err c.in-Err.fault)) same
    (take_failed _ _ _ c.self.inside.batches.items _ _ c.take_into.ensures.same at.0 at.1 c.args.count c.in-Err.fault is c.in-Err.ensures.failed))
