use Rattle.thp_run.specs.Passes.{fronts_in}
use Rattle.thp_worker.proofs.StepLaws.{goes_trans}
use Rattle.tests_runs.proofs.busy_nodes.sections.queue.Goals as goal

pub returns-in_err-divided-clause-goes : goal.returns-in_err-divided-clause-goes
returns-in_err-divided-clause-goes g c =
    let f0 = fronts_in c.args.passes.now in
    let f1 = fronts_in c.step.new.passes in
    let f2 = fronts_in c.step-2.new.passes in
    goes_trans 0 f0 f1 f2 c.step.ensures.goes c.step-2.ensures.goes

pub returns-in_err-queued-clause-goes : goal.returns-in_err-queued-clause-goes
returns-in_err-queued-clause-goes g c =
    let f0 = fronts_in c.args.passes.now in
    let f1 = fronts_in c.step.new.passes in
    let f2 = fronts_in c.step-2.new.passes in
    let f3 = fronts_in c.step-3.new.passes in
    goes_trans 0 f0 f1 f3 c.step.ensures.goes (goes_trans 0 f1 f2 f3 c.step-2.ensures.goes c.step-3.ensures.goes)

pub returns-clause-goes : goal.returns-clause-goes
returns-clause-goes g c =
    let f0 = fronts_in c.args.passes.now in
    let f1 = fronts_in c.step.new.passes in
    let f2 = fronts_in c.step-2.new.passes in
    let f3 = fronts_in c.step-3.new.passes in
    goes_trans 0 f0 f1 f3 c.step.ensures.goes (goes_trans 0 f1 f2 f3 c.step-2.ensures.goes c.step-3.ensures.goes)
