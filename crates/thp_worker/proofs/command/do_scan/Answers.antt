use Rattle.std.proofs.Common.{◌≡◌, ◌∙◌, Ok, ap, sym}
use Rattle.thp_worker.specs.Prelude.{next_step}
use Rattle.thp_worker.proofs.StepLaws.{goes_refl, goes_trans}
use Rattle.thp_worker.proofs.CommandLaws.{fault_wants, handed_on, lacked, proceeds_none, scan_fault, scan_more}
use Rattle.thp_worker.proofs.command.do_scan.Goals as goal

pub loop-begun-init : goal.loop-begun-init
loop-begun-init g c = record { goes = goes_refl _ _; proceeds = proceeds_none _ _ _ _ c.requires.ready }

pub returns-in_err-try_step-clause-goes : goal.returns-in_err-try_step-clause-goes
returns-in_err-try_step-clause-goes g c = goes_trans _ _ _ _ c.loop-begun.invariant.goes c.try_step.ensures.goes

pub returns-in_err-try_step-clause-proceeds : goal.returns-in_err-try_step-clause-proceeds
returns-in_err-try_step-clause-proceeds g c =
    rw (handed_on _ c.in_err-try_step.field-0.0 c.from_residual.ensures.1) (scan_fault _ _ c.requires.caller c.requires.command c.in-Scan.is c.scan_step-step.ensures c.loop-begun.invariant.goes c.loop-begun.invariant.proceeds c.in_err-try_step.field-0.0 c.in_err-try_step.ensures.done)

pub returns-in-Some-clause-goes : goal.returns-in-Some-clause-goes
returns-in-Some-clause-goes g c = goes_trans _ _ _ _ c.loop-begun.invariant.goes c.try_step.ensures.goes

pub returns-in-Some-clause-proceeds : goal.returns-in-Some-clause-proceeds
returns-in-Some-clause-proceeds g c =
    rw (← c.in-Some.ensures) (scan_more _ _ c.requires.caller c.requires.command c.in-Scan.is c.scan_step-step.ensures c.loop-begun.invariant.goes c.loop-begun.invariant.proceeds (Ok c.try_step.new.reply) c.in_ok-try_step.ensures.done)

pub loop-begun-preserved : goal.loop-begun-preserved
loop-begun-preserved g c = record {
  goes = goes_trans _ _ _ _ c.loop-begun.invariant.goes c.try_step.ensures.goes;
  proceeds = rw (← c.in_default-count_reply.ensures) (scan_more _ _ c.requires.caller c.requires.command c.in-Scan.is c.scan_step-step.ensures c.loop-begun.invariant.goes c.loop-begun.invariant.proceeds (Ok c.try_step.new.reply) c.in_ok-try_step.ensures.done);
}

pub returns-in_err-try_step-clause-wants : goal.returns-in_err-try_step-clause-wants
returns-in_err-try_step-clause-wants g c =
    let at : c.scan_step-step.result ≡ next_step c.args.command.now.op c.loop-begun.begun = c.scan_step-step.ensures ∙ ap (λ o. next_step o c.loop-begun.begun) (sym c.in-Scan.is) in
    λ is. fault_wants _ c.args.command.now _ _ _ _ _ at c.loop-begun.invariant.goes c.in_err-try_step.field-0.0 c.in_err-try_step.ensures.done (lacked _ c.in_err-try_step.field-0.0 c.from_residual.ensures.1 is)
