use Rattle.std.proofs.Common.{◌∙◌, ap, false, replicate}
use Rattle.thp_worker.proofs.SectionLaws.{begins_first}
use Rattle.thp_worker.proofs.StepLaws.{goes_refl}
use Rattle.thp_worker.proofs.working.work.Goals as goal

pub go_on-requires-clause-begun : goal.go_on-requires-clause-begun
go_on-requires-clause-begun g c =
    (g.S.Steps.fronts c.args.steps.now, rw c.no_progress.ensures (begins_first _ _ _ _ _ c.in_ok-log.ensures.items (c.in_ok-opened.ensures.items_if_clones_equal (λ y h. h) ∙ ap (λ k. replicate k false) c.nodes.ensures) c.requires.shut))

pub returns-clause-works : goal.returns-clause-works
unfolding go_on-requires-clause-begun
returns-clause-works g c = c.go_on.ensures.works _ (go_on-requires-clause-begun g c.before).1

pub returns-in_err-log-clause-goes : goal.returns-in_err-log-clause-goes
returns-in_err-log-clause-goes g c = goes_refl _ _

pub returns-in_err-opened-clause-goes : goal.returns-in_err-opened-clause-goes
returns-in_err-opened-clause-goes g c = goes_refl _ _
