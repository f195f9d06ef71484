use Rattle.thp_run.specs.Passes.{fronts_in}
use Rattle.tests_runs.specs.Sharing.{shared}
use Rattle.tests_runs.proofs.SharingLaws.{same_inside, works_inside}
use Rattle.tests_runs.proofs.busy_nodes.sections.begin.Goals as goal

pub returns-clause-worked : goal.returns-clause-worked
returns-clause-worked g = works_inside (shared (fronts_in g.args.passes)) (fronts_in g.work.new.steps.inner) 1 g.args.commands.now g.in_ok-worked.worked g.in_ok-worked.ensures.works

pub returns-clause-same : goal.returns-clause-same
returns-clause-same g = same_inside (fronts_in g.args.passes) (fronts_in g.work.new.steps.inner) g.work.ensures.goes.same
