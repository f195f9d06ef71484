use Rattle.std.proofs.Common.{◌≡◌, ◌≤◌, length}
use Rattle.thp_worker.specs.Prelude.{Fronts, Goes, Begins}
use Rattle.thp_worker.proofs.working.go_on.Given as goal

abbrev pub invariant-loop-index : goal.invariant-loop-index
invariant-loop-index g l =
    let fronts = g.S.Steps.fronts in
    record {
      goes : Goes l.worker (fronts l.fn.steps) (fronts l.steps);
      begins : (old : Fronts) → Begins l.worker old (fronts l.fn.steps) l.commands l.fn.answers.items l.fn.opened.items l.fn.begun → Begins l.worker old (fronts l.steps) l.commands l.answers.items l.opened.items l.begun;
      nodes : length l.opened.items ≡ (fronts l.fn.steps).nodes;
      count : length l.answers.items ≡ l.index;
      are : l.answers.are ≡ l.fn.answers.are;
      room : length l.commands ≤ l.answers.room;
    }
