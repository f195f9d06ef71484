use Rattle.std.proofs.Common.{refl, subst, Err, Ok, sym}
use Rattle.thp_history.specs.Prelude.{loss_call, loss_what}
use Rattle.thp_history.specs.declared.page_call.PageCall.TheVariants as either
use Rattle.thp_worker.specs.Prelude.{One, HeldDone, Held}
use Rattle.thp_worker.specs.declared.steps.NodeCall.TheVariants as node
use Rattle.thp_worker.proofs.CommandLaws.{handed_on}
use Rattle.thp_worker.proofs.HoldingLaws.{held_stays, loss_done}
use Rattle.thp_cell.specs.Prelude.{HasCaller}
use Rattle.thp_worker.proofs.node_pass.NodePass.lose.Goals as goal

pub returns-in_err-done : goal.returns-in_err-done
returns-in_err-done g c op is =
    let page = c.args.page in
    let kind = c.args.kind in
    let fault = c.in_err-done.field-0.0 in
    rw (handed_on _ fault c.from_residual.ensures.1) (subst (λ x. HeldDone c.args.caller (One op) x (record { pass = c.lose.new.pass; batches = c.self.inside.batches.items }) (Err fault)) c.self.view_is
    (loss_done op (node.Page page (either.Loss kind)) is _ _ _ _ page (loss_what kind page) (Err fault) (loss_call kind page) c.lose.ensures.same tt c.in_err-done.ensures.failed (λ s h. refl) (λ s h own d e. (d, e, refl))))

pub returns : goal.returns
returns g c op is =
    let page = c.args.page in
    let kind = c.args.kind in
    rw (← c.self.view_is) (loss_done op (node.Page page (either.Loss kind)) is _ _ _ _ page (loss_what kind page) (Ok c.in_ok-done.done) (loss_call kind page) c.lose.ensures.same c.in_ok-done.ensures.recorded tt (λ s h. refl) (λ s h own d e. (d, e, refl)))

pub invariant_of-self-2 : goal.invariant_of-self-2
invariant_of-self-2 g c = held_stays _ _ _ _ c.self.invariant c.lose.ensures.same c.lose.ensures.batches

pub lose-requires-clause-cell : goal.lose-requires-clause-cell
lose-requires-clause-cell g c = c.self.invariant.cell_is

pub lose-requires-clause-caller : goal.lose-requires-clause-caller
lose-requires-clause-caller g c = subst (λ (h : Held). HasCaller h.pass c.args.caller) (sym c.self.view_is) c.requires.caller

pub invariant_of-self : goal.invariant_of-self
invariant_of-self g c = held_stays _ _ _ _ c.self.invariant c.lose.ensures.same c.lose.ensures.batches
