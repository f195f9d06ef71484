use Rattle.std.proofs.Common.{◌<◌, ap, length, rules, slice_index_or, sym, None, ◌≡◌, ◌∙◌, ℕ, List, [], Result, Ok, Err, IfOk, MatchResult, is_ok, true≢false, subst}
use Rattle.std.proofs.lemmas.Result.{IfOk-at_ok, IfOk-from_err}
use Rattle.thp_history.specs.declared.events.Event.{Event}
use Rattle.std.proofs.lemmas.List.{get_or_default}
use Rattle.thp_history.specs.declared.shape.Shape.{Shape}
use Rattle.thp_history.specs.Prelude.{max_order}
use Rattle.thp_cell.specs.Prelude.{HasAll, PassState}
use Rattle.thp_run.specs.Sharing.{IsFreshPass}
use Rattle.thp_run.proofs.script_run.new_cell.Goals as goal

-- what a call returns on success is kept where only its error is replaced
kept : {T E D : Type 0} (r : Result T E) (s : Result T D) (Q : E → Type 0) (P : T → Type 0) →
    MatchResult r (λ x. s ≡ Ok x) Q → is_ok s ≡ is_ok r → IfOk r P → IfOk s P
kept (Ok x) s Q P cases same holds = rw cases holds
kept (Err e) (Ok y) Q P cases same holds = absurd (true≢false same)
kept (Err e) (Err d) Q P cases same holds = tt

-- a new pass is fresh
is_fresh : {A E : Type 0} (s : Result (A × PassState) E) (callers : ℕ) (journal : List Event) →
    IfOk s (λ r. r.1.callers ≡ callers) → IfOk s (λ r. HasAll r.1) → IfOk s (λ r. r.1.front ≡ journal) →
    journal ≡ [] → IfOk s (λ r. IsFreshPass callers r.1)
is_fresh (Err e) callers journal are all front none = tt
is_fresh (Ok r) callers journal are all front none =
    record { whole = record { callers_are = are; first_is = all.from; end_is = all.to ∙ are }; front = front ∙ none }

pub returns-in_err-node-clause-cell : goal.returns-in_err-node-clause-cell
returns-in_err-node-clause-cell g c = IfOk-from_err c.from_residual.result _ c.from_residual.ensures.0

pub returns-in_err-node-clause-shape : goal.returns-in_err-node-clause-shape
returns-in_err-node-clause-shape g c = IfOk-from_err c.from_residual.result _ c.from_residual.ensures.0

pub returns-in_err-node-clause-fresh : goal.returns-in_err-node-clause-fresh
returns-in_err-node-clause-fresh g c = IfOk-from_err c.from_residual.result _ c.from_residual.ensures.0

pub returns-clause-cell : goal.returns-clause-cell
returns-clause-cell g c = kept c.new.result c.map_err-2.result _ _ c.map_err-2.ensures.cases c.map_err-2.ensures.variant c.new.ensures.cell

pub returns-clause-fresh : goal.returns-clause-fresh
returns-clause-fresh g c =
    let made = kept c.with_recorder.result c.map_err.result _ _ c.map_err.ensures.cases c.map_err.ensures.variant c.with_recorder.ensures.journal in
    let none = IfOk-at_ok _ c.in_ok-node.was made in
    kept c.new.result c.map_err-2.result _ _ c.map_err-2.ensures.cases c.map_err-2.ensures.variant (is_fresh c.new.result _ _ c.new.ensures.callers c.new.ensures.all c.new.ensures.front none)

pub returns-clause-shape : goal.returns-clause-shape
returns-clause-shape g c =
    let settings = c.args.settings.now in
    let i = c.args.index in
    let inside : i < length settings.orders = search rules in
    let shape : ℕ → Shape = λ o. record { blocks = settings.blocks; order = o; underused = slice_index_or settings.underused i None } in
    let made = kept c.with_recorder.result c.map_err.result _ _ c.map_err.ensures.cases c.map_err.ensures.variant c.with_recorder.ensures.shape in
    let is = IfOk-at_ok _ c.in_ok-node.was made ∙ ap shape (sym (get_or_default settings.orders i max_order 0 inside)) in
    kept c.new.result c.map_err-2.result _ _ c.map_err-2.ensures.cases c.map_err-2.ensures.variant (subst (λ s. IfOk c.new.result (λ r. r.1.shape ≡ s)) is c.new.ensures.shape)
