use Rattle.std.proofs.Common.{◌≡◌}
use Rattle.thp_worker.proofs.steps.try_step.Given as goal

abbrev pub invariant-loop : goal.invariant-loop
invariant-loop g l =
    let fronts = g.S.Steps.fronts in
    fronts l.steps ≡ fronts l.fn.steps
