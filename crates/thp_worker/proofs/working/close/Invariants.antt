use Rattle.std.proofs.Common.{◌≡◌, ◌<◌, ℕ, List, None, length}
use Rattle.thp_script.specs.declared.script.Command.{Command}
use Rattle.thp_worker.specs.Prelude.{Fronts, Goes, Ends}
use Rattle.thp_worker.proofs.working.close.Given as goal

abbrev pub invariant-loop-node : goal.invariant-loop-node
invariant-loop-node g l =
    let fronts = g.S.Steps.fronts in
    record {
      goes : Goes l.worker (fronts l.fn.steps) (fronts l.steps);
      ends : (old : Fronts) (commands : List Command) → Ends l.worker old (fronts l.fn.steps) commands l.fn.answers.items l.fn.opened.items l.fn.closed → Ends l.worker old (fronts l.steps) commands l.fn.answers.items l.opened.items l.closed;
      count : length l.opened.items ≡ (fronts l.fn.steps).nodes;
      same : l.answers ≡ l.fn.answers;
      shut : (k : ℕ) → k < l.node → (fronts l.steps).batches l.worker k ≡ None;
    }
