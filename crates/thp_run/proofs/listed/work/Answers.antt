use Rattle.thp_run.proofs.ListedLaws.{listed_works}
use Rattle.thp_run.proofs.listed.work.Goals as goal

pub returns-clause-works : goal.returns-clause-works
returns-clause-works g c =
    listed_works c.args.worker (g.S.Steps.fronts c.args.steps.now) (g.S.Steps.fronts c.work.new.steps) c.args.commands.now c.in_ok-worked.worked c.list_answers.result c.requires.shut c.in_ok-worked.ensures.works c.list_answers.ensures.answers c.list_answers.ensures.rest
