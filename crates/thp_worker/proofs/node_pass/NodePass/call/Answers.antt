use Rattle.std.proofs.Common.{◌≡◌, ◌∙◌, refl, subst, sym}
use Rattle.thp_cell.specs.Prelude.{HasCaller}
use Rattle.thp_history.specs.Prelude.{gain_call, gain_what}
use Rattle.thp_history.specs.Refusals as call
use Rattle.thp_history.specs.declared.events.What.TheVariants as what
use Rattle.thp_history.specs.declared.page_call.PageCall.TheVariants as either
use Rattle.thp_worker.specs.Prelude.{Held, node_call_of}
use Rattle.thp_worker.specs.declared.steps.NodeCall.TheVariants as node
use Rattle.thp_worker.proofs.HoldingLaws.{alloc_reported, continues, count_done, held_stays, unit_done}
use Rattle.thp_worker.proofs.node_pass.NodePass.call.Goals as goal

pub returns-in-Alloc : goal.returns-in-Alloc
returns-in-Alloc g c =
    let e = c.alloc_page.ensures in
    rw (← c.self.view_is, c.page.ensures) (alloc_reported _ (sym c.node_call.ensures ∙ c.in-Alloc.is) _ _ _ _ c.alloc_page.result e.same e.recorded e.failed)

pub returns-in-Page-default-Gain : goal.returns-in-Page-default-Gain
returns-in-Page-default-Gain g c =
    let e = c.gain.ensures in
    let a = c.in-Page-default-Gain in
    let is : node_call_of c.args.op ≡ node.Page a.page (either.Gain a.gain) = cc in
    rw (← c.self-in-Page-default-Gain.view_is, c.unit.ensures) (unit_done _ _ is _ _ _ _ (gain_what a.gain a.page) c.gain.result (gain_call a.gain a.page) e.same e.recorded e.failed (λ s h. refl) (λ s h own e. (e, refl)))

pub returns-in-Page-default-Loss : goal.returns-in-Page-default-Loss
returns-in-Page-default-Loss g c = c.lose.ensures c.args.op (cc)

pub returns-in-Close : goal.returns-in-Close
returns-in-Close g c =
    let e = c.close.ensures in
    rw (← c.self-in-Close.view_is, c.unit-in-Close.ensures) (unit_done _ node.Close (sym c.node_call.ensures ∙ c.in-Close.is) _ _ _ _ what.Close c.close.result call.close e.same e.recorded e.failed (λ s h. refl) (λ s h own e. (e, refl)))

pub returns-in-Count : goal.returns-in-Count
returns-in-Count g c =
    rw (← c.self-in-Count.view_is, c.count-in-Count.ensures) (count_done _ (sym c.node_call.ensures ∙ c.in-Count.is) _ _ _ _ _ c.count.ensures.follows c.count.ensures.count)

pub alloc_page-requires-clause-cell : goal.alloc_page-requires-clause-cell
alloc_page-requires-clause-cell g c = c.self.invariant.cell_is

pub alloc_page-requires-clause-caller : goal.alloc_page-requires-clause-caller
alloc_page-requires-clause-caller g c = subst (λ (h : Held). HasCaller h.pass c.args.caller) (sym c.self.view_is) c.requires.caller

pub gain-requires-clause-cell : goal.gain-requires-clause-cell
gain-requires-clause-cell g c = c.self-in-Page-default-Gain.invariant.cell_is

pub gain-requires-clause-caller : goal.gain-requires-clause-caller
gain-requires-clause-caller g c = subst (λ (h : Held). HasCaller h.pass c.args.caller) (sym c.self-in-Page-default-Gain.view_is) c.requires.caller

pub close-requires-clause-cell : goal.close-requires-clause-cell
close-requires-clause-cell g c = c.self-in-Close.invariant.cell_is

pub close-requires-clause-caller : goal.close-requires-clause-caller
close-requires-clause-caller g c = subst (λ (h : Held). HasCaller h.pass c.args.caller) (sym c.self-in-Close.view_is) c.requires.caller

pub invariant_of-self : goal.invariant_of-self
invariant_of-self g c = held_stays _ _ _ _ c.self.invariant c.alloc_page.ensures.same c.alloc_page.ensures.batches

pub invariant_of-self-in-Page-default-Gain : goal.invariant_of-self-in-Page-default-Gain
invariant_of-self-in-Page-default-Gain g c = held_stays _ _ _ _ c.self-in-Page-default-Gain.invariant c.gain.ensures.same c.gain.ensures.batches

pub invariant_of-self-in-Close : goal.invariant_of-self-in-Close
invariant_of-self-in-Close g c = held_stays _ _ _ _ c.self-in-Close.invariant c.close.ensures.same c.close.ensures.batches

pub invariant_of-self-in-Count : goal.invariant_of-self-in-Count
invariant_of-self-in-Count g c = held_stays _ c.self-in-Count.inside.pass c.count.new.pass _ c.self-in-Count.invariant (continues c.self-in-Count.inside.pass c.count.new.pass c.count.ensures.follows.same) c.count.ensures.follows.batches

pub count-requires : goal.count-requires
count-requires g c = c.self-in-Count.invariant.cell_is
