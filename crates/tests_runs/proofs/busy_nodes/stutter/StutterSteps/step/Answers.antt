use Rattle.thp_run.specs.Passes.{fronts_in}
use Rattle.tests_runs.proofs.SharingLaws.{step_shared}
use Rattle.tests_runs.proofs.busy_nodes.stutter.StutterSteps.step.Goals as goal

pub returns-clause-done : goal.returns-clause-done
returns-clause-done c = step_shared (fronts_in c.args.self.now.inner) (fronts_in c.step.new.self) c.args.caller c.args.node c.args.step c.step.result c.step.ensures.done
