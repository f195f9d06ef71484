use Rattle.std.proofs.Common.{◌-◌}
use Rattle.thp_worker.specs.Prelude.{On, Goes, Proceeds}
use Rattle.thp_worker.proofs.command.do_scan.Given as goal

abbrev pub invariant-loop-begun : goal.invariant-loop-begun
invariant-loop-begun g l =
    let fronts = g.S.Steps.fronts in
    record {
      goes : Goes l.caller (fronts l.fn.steps) (fronts l.steps);
      proceeds : Proceeds l.caller l.command l.fn.begun (fronts l.fn.steps) (fronts l.steps) (On l.begun);
    }

abbrev pub decreases-loop-begun : goal.decreases-loop-begun
decreases-loop-begun g l = 132 - l.begun.steps
